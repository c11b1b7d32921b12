pub mod Due
pub mod OfLayouts
pub mod OfQuestions

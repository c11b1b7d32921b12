pub mod InCode
pub mod OverTables

-- Two answers at once: what a function gives, and what it leaves in a list.

abbrev pub both : {A B : Type 0} → A → B → A × B
both a b = (a, b)

use Rattle.std.proofs.Common.{◌≡◌, ℕ, ◌≤◌, List, length, take, length-take-le, rules}

-- the first n entries of an array of m are n
pub taken : {A : Type 0} (n m : ℕ) (l : List A) → n ≤ m → length l ≡ m → length (take n l) ≡ n
taken n m l h e = length-take-le n l (rw e h)

pub ruleset parts = (taken, rules)

-- The sheet's output order (document 01): ties go to the output whose first literal holds, then the second, and so on.
-- Assumes nothing.
use Rattle.std.specs.Prelude.{◌≡◌, Bool, true, false, cond, List, ℕ, ◌/◌, ◌%◌, ◌^◌, ◌<◌, ltb, eqb, length, get_or}

-- a literal is its line's number, 8 more if off is preferred; it holds of an output in which the line is as preferred
unfoldable pub literal_holds : ℕ → ℕ → Bool
literal_holds literal o = eqb (o / 2 ^ (literal % 8) % 2) (cond (ltb literal 8) 1 0)

-- o stands above q: there is a first literal that holds of only one of them, and it holds of o
pub record Higher (literals : List ℕ) (o q : ℕ) : Type 0 where
  pub at : ℕ
  pub inside : at < length literals
  pub alike : (j : ℕ) → j < at → literal_holds (get_or literals j 0) o ≡ literal_holds (get_or literals j 0) q
  pub above : literal_holds (get_or literals at 0) o ≡ true
  pub below : literal_holds (get_or literals at 0) q ≡ false

-- a list of n literals that names each of n lines once, on or off: n is up to 8, as many lines as a literal can name
pub record NamesEach (literals : List ℕ) : Type 0 where
  pub line : (j : ℕ) → j < length literals → get_or literals j 0 % 8 < length literals
  pub once : (i j : ℕ) → i < j → j < length literals → get_or literals i 0 % 8 ≡ get_or literals j 0 % 8 → ⊥

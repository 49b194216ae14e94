-- A board beside the run book: what it answers and shows over a list of calls, and when that is the book's.
-- Assumes nothing.
use Rattle.std.specs.Prelude.{◌≡◌, List, [], ◌∷◌, map, ℕ}
use Rattle.std.proofs.Math.Option.{Option, none, some}
use Rattle.game.specs.Meaning.History.{Step}
use Rattle.game.specs.Meaning.Book.{Call, Answer, empty_book, Entry, Keeps}

-- P of the run that a book holds, if it holds one
abbrev pub Held : (List Step → Type 0) → Option (List Step) → Type 0
Held P none = Unit {0}
Held P (some h) = P h

-- boards B that are lent slices T: a call hands back a board, `after`, and an answer, `says`
module _ (T B : Type 0) (after : B → Call T → B) (says : B → Call T → Answer) where
  -- the answers to a list of calls, each given the board that the last one handed back
  abbrev pub replies : B → List (Call T) → List Answer
  replies b [] = []
  replies b (c ∷ cs) = says b c ∷ replies (after b c) cs

  -- after each call, while the book holds a run, the board shows it
  abbrev pub Shown : (B → List Step → Type 0) → B → List (Call T) → List Entry → Type 0
  Shown Shows b [] es = Unit {0}
  Shown Shows b (c ∷ cs) [] = ⊥
  Shown Shows b (c ∷ cs) (e ∷ es) = Held (Shows (after b c)) e.book.run × Shown Shows (after b c) cs es

  -- the book of these calls can be kept in exactly one way; its answers are the board's, and the board shows its runs
  pub record Agrees
      (S : Type 0) (I limit : ℕ) (next : S → ℕ → ℕ → S) (start : S) (Moves : S → ℕ → ℕ → Type 0)
      (Shows : B → List Step → Type 0) (b : B) (cs : List (Call T)) : Type 0 where
    pub entries : List Entry
    pub kept : Keeps T S I limit next start Moves empty_book cs entries
    pub only : (es : List Entry) → Keeps T S I limit next start Moves empty_book cs es → es ≡ entries
    pub answers : replies b cs ≡ map (λ (e : Entry). e.answer) entries
    pub shows : Shown Shows b cs entries

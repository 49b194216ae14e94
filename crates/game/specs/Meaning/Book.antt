-- The run book (document 01): what a guard must answer to a list of calls, as a relation.
-- It mentions no table and no board; the slices that calls are lent, of type T, are never looked at.
-- Assumes nothing.
use Rattle.std.specs.Prelude.{◌≡◌, Bool, true, false, cond, List, [], ◌∷◌, ℕ, ◌+◌, ltb, length}
use Rattle.std.proofs.Math.Option.{Option, none, some}
use Rattle.game.specs.Meaning.History.{Step, reached}
use Rattle.game.specs.Meaning.Proposal.{deviates}

-- the calls, with the slices that load and step are lent
pub data Call (T : Type 0) : Type 0 where
  load : T → Call T
  step : T → ℕ → Call T
  rewind unload : Call T

-- what a call answers: document 01's number (0: not refused) and the output (0 on a refusal)
pub record Answer : Type 0 where
  pub number : ℕ
  pub output : ℕ

abbrev pub refuse : ℕ → Answer
refuse n = record { number = n; output = 0 }

abbrev pub give : ℕ → Answer
give o = record { number = 0; output = o }

-- what the book holds: a run, or none while it is empty
pub record Book : Type 0 where
  pub run : Option (List Step)

abbrev pub empty_book : Book
empty_book = record { run = none }

abbrev pub book_of : List Step → Book
book_of h = record { run = some h }

-- what a call leaves: the answer to it, and the book
pub record Entry : Type 0 where
  pub answer : Answer
  pub book : Book

-- the deviations of a run, in this mode and with so many site lines
abbrev pub deviations : ℕ → ℕ → List Step → ℕ
deviations mode site [] = 0
deviations mode site (x ∷ h) = deviations mode site h + cond (deviates mode site x.input x.output) 1 0

-- the book of a guard with I inputs and room for `limit` steps, whose states move by `next` from `start`;
-- `Moves s i o` says that o answers the input i at the point s
module _ (T S : Type 0) (I limit : ℕ) (next : S → ℕ → ℕ → S) (start : S) (Moves : S → ℕ → ℕ → Type 0) where
  -- a step of the book p, which holds the run h: has it room for an input, and is the input one?
  abbrev pub Steps : Bool → Bool → Book → List Step → ℕ → Answer → Book → Type 0
  Steps false letter p h i a q = (a ≡ refuse 22) × (q ≡ p)
  Steps true false p h i a q = (a ≡ refuse 12) × (q ≡ p)
  Steps true true p h i a q =
      (o : ℕ) × Moves (reached S next start h) i o × (a ≡ give o) × (q ≡ book_of (record { input = i; output = o } ∷ h))

  -- a call of the book p, which holds this run, if any
  abbrev pub Takes : Book → Option (List Step) → Call T → Answer → Book → Type 0
  Takes p none (load t) a q = (a ≡ give 0) × (q ≡ book_of [])
  Takes p none (step t i) a q = (a ≡ refuse 20) × (q ≡ p)
  Takes p none rewind a q = (a ≡ refuse 20) × (q ≡ p)
  Takes p none unload a q = (a ≡ refuse 20) × (q ≡ p)
  Takes p (some h) (load t) a q = (a ≡ refuse 21) × (q ≡ p)
  Takes p (some h) (step t i) a q = Steps (ltb (length h) limit) (ltb i I) p h i a q
  Takes p (some h) rewind a q = (a ≡ give 0) × (q ≡ book_of [])
  Takes p (some h) unload a q = (a ≡ give 0) × (q ≡ empty_book)

  -- the book p takes the call, answers a, and is then q
  abbrev pub Writes : Book → Call T → Answer → Book → Type 0
  Writes p c a q = Takes p p.run c a q

  -- the entries es, one for each call of cs, keep the book that begins as p
  abbrev pub Keeps : Book → List (Call T) → List Entry → Type 0
  Keeps p [] [] = Unit {0}
  Keeps p [] (e ∷ es) = ⊥
  Keeps p (c ∷ cs) [] = ⊥
  Keeps p (c ∷ cs) (e ∷ es) = Writes p c e.answer e.book × Keeps e.book cs es

-- whether the book holds a run is a function of the calls alone
abbrev pub holding : {T : Type 0} → Bool → Call T → Bool
holding h (load t) = true
holding h (step t i) = h
holding h rewind = h
holding h unload = false

-- every step is lent the table, and so is every load while the book holds no run; a load that finds a run may be lent
-- anything
abbrev pub Lent : {T : Type 0} → T → Bool → List (Call T) → Type 0
Lent table h [] = Unit {0}
Lent table false (load t ∷ cs) = (t ≡ table) × Lent table true cs
Lent table true (load t ∷ cs) = Lent table true cs
Lent table h (step t i ∷ cs) = (t ≡ table) × Lent table h cs
Lent table h (rewind ∷ cs) = Lent table h cs
Lent table h (unload ∷ cs) = Lent table false cs

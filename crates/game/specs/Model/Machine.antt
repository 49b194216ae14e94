-- How a board runs a table, call by call.
-- Assumes nothing.
use Rattle.std.specs.Prelude.{◌≡◌, cond, ℕ, ◌+◌, ◌≤◌, ◌<◌}
use Rattle.game.specs.Meaning.Proposal.{deviates}
use Rattle.game.specs.Meaning.Book.{Call, load, step, rewind, unload, Answer, refuse, give}

-- boards B that are lent slices T: a call hands back a board, `after`, and an answer, `says`
module _ (T B : Type 0) (after : B → Call T → B) (says : B → Call T → Answer) where
  -- how a board runs a table of N places, `out k i` and `nxt k i` being its entries, with I inputs and `limit` steps.
  -- `Empty b`: the board counts as empty. `Stands b k n d`: it is loaded, at place k, after n steps with d deviations
  pub record RunsTable
      (table : T) (N I limit mode site : ℕ) (out nxt : ℕ → ℕ → ℕ)
      (Empty : B → Type 0) (Stands : B → ℕ → ℕ → ℕ → Type 0) : Type 0 where
    pub loads : (b : B) → Empty b → (says b (load table) ≡ give 0) × Stands (after b (load table)) 0 0 0
    pub empties : (b : B) → Empty b → (c : Call T) → ((t : T) → c ≡ load t → ⊥) → (says b c ≡ refuse 20) × (after b c ≡ b)
    pub occupied : (b : B) (k n d : ℕ) → Stands b k n d → (t : T) → (says b (load t) ≡ refuse 21) × (after b (load t) ≡ b)
    pub rewinds : (b : B) (k n d : ℕ) → Stands b k n d → (says b rewind ≡ give 0) × Stands (after b rewind) 0 0 0
    pub unloads : (b : B) (k n d : ℕ) → Stands b k n d → (says b unload ≡ give 0) × Empty (after b unload)
    pub spent : (b : B) (k n d : ℕ) → Stands b k n d → (i : ℕ) → limit ≤ n
        → (says b (step table i) ≡ refuse 22) × (after b (step table i) ≡ b)
    pub stranger : (b : B) (k n d : ℕ) → Stands b k n d → (i : ℕ) → n < limit → I ≤ i
        → (says b (step table i) ≡ refuse 12) × (after b (step table i) ≡ b)
    pub steps : (b : B) (k n d : ℕ) → Stands b k n d → (i : ℕ) → k < N → n < limit → i < I
        → (says b (step table i) ≡ give (out k i))
        × Stands (after b (step table i)) (nxt k i) (n + 1) (d + cond (deviates mode site i (out k i)) 1 0)

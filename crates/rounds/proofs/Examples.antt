-- The rounds and masks of small tables, by computation.
-- Assumes nothing.
use mathlib.Core.Path.{◌≡◌, refl}
use mathlib.Core.List.{List, [], ◌∷◌}
use Prim.Native.Nat.{ℕ}
use Rattle.records.specs.Meaning.Bounded.{all, any, sum, count}
use Rattle.records.specs.Model.Lists.{put}
use Rattle.records.specs.Meaning.Lists.{tab}
use Rattle.records.specs.Model.Cells.{broken_cell, is_broken}
use Rattle.rounds.specs.Model.TableRounds.{cell_at, is_in, leads_in, answered, stays, entry_after, round, rounds, settled, kept_count, mask_of}

-- the masks of n states, one for each state and input
abbrev masks : List ℕ → List ℕ → ℕ → ℕ → ℕ → List (List ℕ)
masks cells dropped n ins outs = tab n (λ k. tab ins (mask_of cells dropped ins outs k))

-- a dead end, with one input and two outputs: 0 goes to 0 or 1, 1 to 2 alone, 2 nowhere
abbrev dead_end : List ℕ
dead_end = 0 ∷ 1 ∷ 2 ∷ broken_cell 0 ∷ broken_cell 3 ∷ broken_cell 5 ∷ []

-- round 1 drops state 2, round 2 state 1; past the three states memory is as it was
pub dead_end_dropped : settled dead_end 3 1 2 (7 ∷ 7 ∷ 7 ∷ 7 ∷ []) ≡ 0 ∷ 2 ∷ 1 ∷ 7 ∷ []
unfolding settled rounds round entry_after stays answered leads_in is_broken is_in cell_at any all put
dead_end_dropped = refl

pub dead_end-count : kept_count 3 (0 ∷ 2 ∷ 1 ∷ 7 ∷ []) ≡ 1
unfolding kept_count is_in count
dead_end-count = refl

pub dead_end-masks : masks dead_end (0 ∷ 2 ∷ 1 ∷ 7 ∷ []) 3 1 2 ≡ (1 ∷ []) ∷ (0 ∷ []) ∷ (0 ∷ []) ∷ []
unfolding mask_of leads_in is_broken is_in cell_at sum tab
dead_end-masks = refl

-- one input without a step is enough to lose: 0 stays at input 0 only
pub one_input_lost : settled (0 ∷ broken_cell 0 ∷ []) 1 2 1 (7 ∷ []) ≡ 1 ∷ []
unfolding settled rounds round entry_after stays answered leads_in is_broken is_in cell_at any all put
one_input_lost = refl

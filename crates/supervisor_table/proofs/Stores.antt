-- Stores that the table writer makes: a record, and where it lies.
-- Assumes nothing.
use mathlib.Core.Path.{◌≡◌, ap, ◌∙◌}
use mathlib.Core.List.{List, ◌∷◌, ◌++◌}
use Prim.Native.Nat.{ℕ, suc, ◌+◌, ◌*◌, ◌≤◌, ◌<◌}
use native.Mathlib.Nat.{mul-le-mul_right, suc-mul}
use native.Mathlib.Omega.{arith}
use lib.ListN.{set}
use lib.Seq.{sets}
use Rattle.records.specs.Laws.Lists.{sets_append}
use Rattle.records.specs.Meaning.Records.{header}
use Rattle.supervisor_table.specs.Model.MaskRows.{mask_row_length, mask_table_length}

-- a record: its header, its first byte, and the rest
pub whole_record : (before : List ℕ) (at size kind first : ℕ) (rest : List ℕ) {now next : List ℕ}
    → now ≡ sets before at (header size kind) → {x : ℕ} → x ≡ first
    → next ≡ sets (set now (at + 4) x) (at + 5) rest → next ≡ sets before at (header size kind ++ (first ∷ rest))
whole_record before at size kind first rest {now} {next} e {x} is f =
    let past : at + 5 ≡ suc (at + 4) = omega arith in
    f
    ∙ ap (λ (j : ℕ). sets (set now (at + 4) x) j rest) past
    ∙ ap (λ (y : ℕ). sets now (at + 4) (y ∷ rest)) is
    ∙ ap (λ (l : List ℕ). sets l (at + 4) (first ∷ rest)) e
    ∙ sets_append before at (header size kind) (first ∷ rest)

-- the row of a state lies inside the table
pub row_inside : (ins n k : ℕ) {size room : ℕ} → size ≡ mask_row_length ins → k < n → mask_table_length ins n ≤ room
    → 9 + k * size + (5 + ins) ≤ room
unfolding mask_table_length mask_row_length
row_inside ins n k e h fits = rw e (omega (arith, mul-le-mul_right (5 + ins) h, suc-mul k (5 + ins)))

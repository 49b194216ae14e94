-- What the makers promise, where the work memory has just the lengths that they ask for.
-- Assumes nothing.
use mathlib.Core.Path.{◌≡◌, ap, ◌∙◌}
use mathlib.Core.List.{List}
use Rattle.std.specs.Prelude.{Result}
use Prim.Native.Nat.{ℕ, ◌≤◌}
use lib.ListN.{length, take, length-replicate}
use native.Mathlib.Omega.{arith}
use lib.Seq.{sets, length-sets, take-append_seam}
use Rattle.records.specs.Laws.Lists.{sets_front}
use Rattle.records.specs.Meaning.Numbers.{zeros}
use Rattle.records.specs.Laws.Work.{exactly, exactly_enough}
use Rattle.records.specs.Meaning.Work.{Slice, long_enough}
use Rattle.sheet.specs.Meaning.Decoded.{Decoded, encode}
use Rattle.sheet.specs.declared.layout.Refusal.{Refusal}
use Rattle.solve.specs.declared.made.Made.{Made}
use Rattle.solve.specs.Promises.Making.{Makes}
use Rattle.notebook.specs.Model.Counters.{counters, Answered}
use Rattle.notebook.proofs.Encoding.{length_encoded}

-- a new array's length
pub zeros-length : (n : ℕ) → length (zeros n) ≡ n
zeros-length n = length-replicate {A = ℕ} n 0

pub answered : {table : Decoded → List ℕ} {stateCounts : Decoded → ℕ} (asked : List Slice) {s before lent after : List ℕ}
    {r : Result Made Refusal} {room : ℕ} → Makes table stateCounts (long_enough asked lent) s before r after → lent ≡ exactly asked
    → length before ≡ room → Answered table stateCounts s room r
answered asked m e d =
    record {
      number = rw (← exactly_enough asked, ← e, ← d) m.answers.number;
      states = m.answers.states;
    }

-- ---- the sheet's bytes at the start of a new array

pub record Written (size : ℕ) (array s : List ℕ) : Type 0 where
  pub inside : size ≤ length array
  pub part : take size array ≡ s

pub written : (s : List ℕ) {array : List ℕ} {size : ℕ} → length s ≤ 512 → (array ≡ sets (zeros 512) 0 s) × (size ≡ length s)
    → Written size array s
written s {array} h e =
    let long : length array ≡ 512 = ap length e.0 ∙ length-sets (zeros 512) 0 s ∙ zeros-length 512 in
    record {
      inside = omega (arith, e.1);
      part = rw (e.0, e.1, sets_front (zeros 512) s (omega (arith, zeros-length 512))) (take-append_seam s _);
    }

-- those of two counters have room
pub counters_written : {n m size : ℕ} {array : List ℕ} → (n ≤ 32) × (m ≤ 32)
    → (array ≡ sets (zeros 512) 0 (encode (counters n m))) × (size ≡ length (encode (counters n m)))
    → Written size array (encode (counters n m))
counters_written {n} {m} few e = written (encode (counters n m)) (omega (arith, length_encoded n m few.0 few.1)) e

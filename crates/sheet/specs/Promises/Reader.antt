-- What reading a sheet promises, for every slice of bytes.
-- Assumes nothing.
use Rattle.std.specs.Prelude.{◌≡◌, ◌↔◌, List, ℕ, Result, IfOk}
use Rattle.sheet.specs.Meaning.Decoded.{Decoded, SheetOk, encode}
use Rattle.sheet.specs.Meaning.Grounds.{verdict_number}
use Rattle.sheet.specs.Model.Where.{decoded, Fits}
use Rattle.sheet.specs.Model.Reader.{reading}
use Rattle.sheet.specs.Meaning.Refusals.{sheet_number}
use Rattle.sheet.specs.declared.layout.Sheet.{Sheet}
use Rattle.sheet.specs.declared.layout.Refusal.{Refusal}

pub record Reads (s : List ℕ) (r : Result Sheet Refusal) : Type 0 where
  -- the answer is the model's
  pub whole : r ≡ reading s
  -- refused by document 01's number
  pub number : verdict_number r ≡ sheet_number s
  -- refused by none of 1 to 6 exactly if the bytes are those of a sheet in bounds
  pub exactly : (verdict_number r ≡ 0) ↔ ((d : Decoded) × SheetOk d × (encode d ≡ s))
  -- and then the layout is that of this sheet, and lies inside the bytes
  pub same : IfOk r (λ h. encode (decoded s h) ≡ s)
  pub fits : IfOk r (λ h. Fits s h)

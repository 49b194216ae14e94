-- What reading a sheet promises, proved of the model: the code's proof has only to be the model.
-- Assumes nothing.
use Rattle.std.specs.Prelude.{◌≡◌, refl, List, ℕ, Result, Ok}
use Rattle.records.specs.Meaning.Numbers.{Bytes}
use Rattle.sheet.specs.Meaning.Decoded.{Decoded, SheetOk, encode}
use Rattle.sheet.specs.Model.Where.{decoded}
use Rattle.sheet.specs.Model.Reader.{reading}
use Rattle.sheet.specs.Promises.Reader.{Reads}
use Rattle.sheet.specs.Laws.Grounds.{answered, if_ok}
use Rattle.sheet.specs.Laws.Verdicts.{verdict_number_lem}
use Rattle.sheet.specs.Laws.Sound.{accepted_fits, accepted-same}
use Rattle.sheet.specs.Laws.Complete.{encode-accepted, decode_encode}
use Rattle.sheet.specs.declared.layout.Sheet.{Sheet}
use Rattle.sheet.specs.declared.layout.Refusal.{Refusal}

-- the model keeps every promise
pub reads : (s : List ℕ) → Bytes s → Reads s (reading s)
reads s b =
    record {
      whole = refl;
      number = verdict_number_lem s;
      exactly = (
        λ e. let h = answered (reading s) e in (decoded s h.0, (accepted_fits s b h.0 h.1).ok, accepted-same s b h.0 h.1),
        λ d. rw (← d.2) (encode-accepted d.0 d.1),
      );
      same = if_ok (reading s) (accepted-same s b);
      fits = if_ok (reading s) (accepted_fits s b);
    }

-- so does an answer that is the model's
pub reads_as : (s : List ℕ) (r : Result Sheet Refusal) → Bytes s → r ≡ reading s → Reads s r
reads_as s r b e = rw e (reads s b)

-- no other sheet in bounds has the bytes of an accepted one
pub only_sheet : (s : List ℕ) (d : Decoded) → SheetOk d → encode d ≡ s → (h : Sheet) × (reading s ≡ Ok h) × (decoded s h ≡ d)
only_sheet s d o q = let g = decode_encode d o in (g.0, rw (← q) g.1, rw (← q) g.2)

-- Laws of the cursor: what it finds, and where a record that it finds lies.
-- Assumes nothing.
use Rattle.std.specs.Prelude.{◌≡◌, true, false, cond, List, ℕ, ◌+◌, ◌-◌, ◌*◌, ◌≤◌, ◌<◌, ltb, leb, length, get_or, Option, Some, None, Ok, Err}
use Rattle.std.proofs.Common.{sym, ◌∙◌, add-zero, add_assoc, arith, leb-true, leb-false, ltb-true, ltb-false, le-leb, lt-ltb, le-ltb}
use Rattle.std.proofs.lemmas.Bool.{lt-leb}
use Rattle.records.specs.Laws.Tests.{by_test}
use Rattle.records.specs.Meaning.Lists.{tab}
use Rattle.records.specs.Model.Lists.{part}
use Rattle.records.specs.Meaning.Numbers.{Bytes, u16_at}
use Rattle.records.specs.Laws.Numbers.{u16_low, u16_high}
use Rattle.records.specs.declared.cursor.Record.{Record}
use Rattle.records.specs.Meaning.Records.{header, size_at, kind_at, body_at, end_at, Found, record_at, read_at, past, is_cut, found_number}
use Rattle.records.specs.Promises.Cursor.{Finds}

-- where a record lies: its parts are read where they stand, and its body ends within the bytes
pub record Lies (s : List ℕ) (at next : ℕ) (r : Record) : Type 0 where
  pub is_kind : r.kind ≡ kind_at s at
  pub is_start : r.start ≡ body_at at
  pub is_size : r.size ≡ size_at s at
  pub is_next : next ≡ r.start + r.size
  pub inside : next ≤ length s

-- the three that a cursor can find, each with what it says of the bytes
pub read_cases {ℓ} : {X : Type ℓ} (s : List ℕ) (at : ℕ) → (read_at s at ≡ Ok None → length s ≤ at → X)
    → (read_at s at ≡ Err (record {}) → at < length s → X)
    → (read_at s at ≡ record_at s at → end_at s at ≤ length s → X) → X
unfolding read_at
read_cases s at end short found =
    by_test (leb (length s) at) (λ e. end (rw e) (leb-true (length s) at e))
    (λ e. by_test (ltb (length s - at) 4) (λ f. short (rw (e, f)) (leb-false (length s) at e))
    (λ f. by_test (ltb (length s - (at + 4)) (u16_at s at)) (λ g. short (rw (e, f, g)) (leb-false (length s) at e))
    (λ g. found (rw (e, f, g))
    (omega (arith, leb-false (length s) at e, ltb-false (length s - at) 4 f, ltb-false (length s - (at + 4)) (u16_at s at) g)))))

-- a record that was found lies where the cursor stood, which goes past it
pub lies : {s : List ℕ} {at next : ℕ} {f : Found} → Finds s at next f → {r : Record} → f ≡ Ok (Some r) → Lies s at next r
lies {s} {at} {next} {f} w {r} e =
    let m : read_at s at ≡ Ok (Some r) = sym w.whole ∙ e in
    let n : next ≡ r.start + r.size = rw e at w.stands in
    read_cases s at
    (λ g h. absurd (let z : ◌≡◌ {A = Option Record} None (Some r) = cc in let y : ◌≡◌ {A = ℕ} 0 1 = cc in omega arith))
    (λ g h. absurd (let z : ◌≡◌ {A = ℕ} 0 1 = cc in omega arith))
    (λ g h.
    let q : r ≡ record { kind = kind_at s at; start = body_at at; size = size_at s at } = cc in
    let b : r.start ≡ body_at at = rw q in
    let z : r.size ≡ size_at s at = rw q in
    record { is_kind = rw q; is_start = b; is_size = z; is_next = n; inside = omega arith })

-- what is found has document 01's number: 1 exactly where the record is cut
found_number_lem : (s : List ℕ) (at : ℕ) → found_number (read_at s at) ≡ cond (is_cut s at) 1 0
unfolding read_at is_cut
found_number_lem s at =
    by_test (leb (length s) at) (λ e. rw (e, le-ltb at (length s) (leb-true (length s) at e)))
    (λ e.
    let left : ltb at (length s) ≡ true = lt-ltb at (length s) (leb-false (length s) at e) in
    by_test (ltb (length s - at) 4)
    (λ f. rw (e, f, left, lt-ltb (length s) (at + 4) (omega (arith, ltb-true (length s - at) 4 f))))
    (λ f.
    let headed : at + 4 ≤ length s = omega (arith, ltb-false (length s - at) 4 f) in
    let whole : ltb (length s) (at + 4) ≡ false = le-ltb (length s) (at + 4) headed in
    let past = at + 4 + u16_at s at in
    by_test (ltb (length s - (at + 4)) (u16_at s at))
    (λ g. rw (e, f, g, left, whole, lt-ltb (length s) past (omega (arith, ltb-true (length s - (at + 4)) (u16_at s at) g))))
    (λ g. rw (e, f, g, left, whole, le-ltb (length s) past (omega (arith, ltb-false (length s - (at + 4)) (u16_at s at) g))))))

-- so an answer that is the model's keeps the promise
pub finds : {s : List ℕ} {at next : ℕ} {r : Found} → r ≡ read_at s at → next ≡ past r at → Finds s at next r
finds {s} {at} e n = record { whole = e; number = rw e (found_number_lem s at); stands = n }

-- at the end of the bytes
pub read_end : (s : List ℕ) (at : ℕ) → length s ≤ at → read_at s at ≡ Ok None
unfolding read_at
read_end s at h = rw (le-leb (length s) at h)

-- where a record lies inside the bytes
pub read_record : (s : List ℕ) (at : ℕ) → at + 4 + u16_at s at ≤ length s → read_at s at ≡ record_at s at
unfolding read_at
read_record s at h =
    rw (lt-leb (length s) at (omega arith), le-ltb (length s - at) 4 (omega arith), le-ltb (length s - (at + 4)) (u16_at s at) (omega arith))

-- four bytes with a length and a kind are the header that is written for them
pub header_there : (s : List ℕ) (at size kind : ℕ) → Bytes s → u16_at s at ≡ size → u16_at s (at + 2) ≡ kind → part s at 4 ≡ header size kind
unfolding part tab u16_at
header_there s at size kind b e f =
    let g : get_or s (at + 2) 0 + 256 * get_or s (at + 3) 0 ≡ kind = rw (add_assoc at 2 1) at f in
    rw (
      add-zero at,
      u16_low (get_or s at 0) (get_or s (at + 1) 0) size (b at) e,
      u16_high (get_or s at 0) (get_or s (at + 1) 0) size (b at) e,
      u16_low (get_or s (at + 2) 0) (get_or s (at + 3) 0) kind (b (at + 2)) g,
      u16_high (get_or s (at + 2) 0) (get_or s (at + 3) 0) kind (b (at + 2)) g,
    )

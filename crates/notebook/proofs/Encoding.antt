-- The bytes that the program writes are the encoding of the counters' sheet.
-- Assumes nothing.
use mathlib.Core.Path.{◌≡◌, sym, ap, ◌∙◌}
use mathlib.Core.List.{List, [], ◌∷◌, ◌++◌}
use Prim.Native.Nat.{ℕ, ◌+◌, ◌-◌, ◌*◌, ◌/◌, ◌%◌, ◌≤◌, ◌<◌}
use native.Mathlib.Nat.{zero-add}
use native.Mathlib.Omega.{arith}
use lib.ListN.{length, get_or}
use borrow.Author.Tests.{lt-ltb, le-ltb}
use Rattle.records.specs.Meaning.Lists.{tab, cat}
use Rattle.records.specs.Meaning.Records.{header}
use Rattle.records.specs.Model.Lists.{part}
use Rattle.records.specs.Laws.Lists.{length-tab, get_d_tab, tab_ext, cat_ext, part-add, part-whole, part-cat}
use Rattle.sheet.specs.Meaning.Decoded.{letters_read, encode_head, encode_monitor, encode}
use Rattle.notebook.specs.Model.Counters.{count_on, counter, counters, head_byte, front_byte, counter_byte, sheet_byte, sheet_bytes}

-- ---- a counter's record

-- its bytes after the front: an accept byte, and a move
accept_byte : (n power k : ℕ) → k < n → counter_byte n power (8 + k) ≡ 1
unfolding counter_byte
accept_byte n power k h = simp (le-ltb (8 + k) 8 (omega arith), lt-ltb (8 + k) (8 + n) (omega arith))

move_byte : (n power q o : ℕ) → o < 4 → counter_byte n power (8 + (n + (q * 4 + o))) ≡ count_on n power q o
unfolding counter_byte
move_byte n power q o h =
    let entry : ℕ = 8 + (n + (q * 4 + o)) - (8 + n) in
    let state : entry / 4 ≡ q = omega arith in
    let output : entry % 4 ≡ o = omega arith in
    rw (le-ltb (8 + (n + (q * 4 + o))) 8 (omega arith), le-ltb (8 + (n + (q * 4 + o))) (8 + n) (omega arith), state, output)

-- wherever its bytes stand, they are its encoding
module _ (s : List ℕ) (at n power : ℕ) (few : n ≤ 32)
    (there : (k : ℕ) → k < 8 + n * 5 → get_or s (at + k) 0 ≡ counter_byte n power k) where
  byte : (i k : ℕ) → i ≡ at + k → k < 8 + n * 5 → get_or s i 0 ≡ counter_byte n power k
  byte i k e h = rw e (there k h)

  -- the header and the four numbers, the accept bytes, the moves
  front : part s at 8 ≡ header (4 + n + n * 4) 2 ++ (0 ∷ 0 ∷ n ∷ 0 ∷ [])
  unfolding part tab counter_byte front_byte
  front =
      let low : (4 + n + n * 4) % 256 ≡ 4 + n * 5 = omega arith in
      let high : (4 + n + n * 4) / 256 ≡ 0 = omega arith in
      tab_ext 8 _ (counter_byte n power) (λ k h. there k (omega arith)) ∙ rw (low, high)

  accepting : part s (at + 8) n ≡ tab n (λ q. 1)
  unfolding part
  accepting = tab_ext n _ (λ q. 1) (λ k h. byte (at + 8 + k) (8 + k) (omega arith) (omega arith) ∙ accept_byte n power k h)

  moves : part s (at + 8 + n) (n * 4) ≡ cat n (λ q. get_or (counter n power).rows q [])
  unfolding part
  moves =
      part-cat s (at + 8 + n) n 4
      ∙ cat_ext n _ _ (λ q h.
      tab_ext 4 _ (count_on n power q) (λ o l.
      byte (at + 8 + n + q * 4 + o) (8 + (n + (q * 4 + o))) (omega arith) (omega arith) ∙ move_byte n power q o l)
      ∙ sym (get_d_tab n (λ q. tab 4 (count_on n power q)) q [] h))

  record_encoded : (a b : ℕ) → part s at (8 + n * 5) ≡ encode_monitor (counters a b) (counter n power)
  unfolding encode_monitor letters_read
  record_encoded a b =
      let size : 8 + n * 5 ≡ 8 + (n + n * 4) = omega arith in
      rw (size, part-add s at 8 (n + n * 4), part-add s (at + 8) n (n * 4), front, accepting, moves)
      (simp length-tab)

-- ---- the sheet, for any two sizes

module _ (n m : ℕ) where
  length_sheet : length (sheet_bytes n m) ≡ 27 + n * 5 + m * 5
  unfolding sheet_bytes
  length_sheet = length-tab (27 + n * 5 + m * 5) (sheet_byte n m)

  sheet_byte_lem : (k : ℕ) → k < 27 + n * 5 + m * 5 → get_or (sheet_bytes n m) k 0 ≡ sheet_byte n m k
  unfolding sheet_bytes
  sheet_byte_lem k h = get_d_tab (27 + n * 5 + m * 5) (sheet_byte n m) k 0 h

  -- the head, and the two records after it
  head_at : (k : ℕ) → k < 11 → get_or (sheet_bytes n m) (0 + k) 0 ≡ head_byte k
  unfolding sheet_byte
  head_at k h = rw zero-add (sheet_byte_lem k (omega arith) ∙ simp (lt-ltb k 11 h))

  head_encoded : part (sheet_bytes n m) 0 11 ≡ encode_head (counters n m)
  unfolding part tab head_byte encode_head
  head_encoded = tab_ext 11 _ head_byte head_at

  first_at_lem : (k : ℕ) → k < 8 + n * 5 → get_or (sheet_bytes n m) (11 + k) 0 ≡ counter_byte n 1 k
  unfolding sheet_byte
  first_at_lem k h =
      let same : 11 + k - 11 ≡ k = omega arith in
      sheet_byte_lem (11 + k) (omega arith)
      ∙ rw (le-ltb (11 + k) 11 (omega arith), lt-ltb (11 + k) (19 + n * 5) (omega arith), same)

  second_at : (k : ℕ) → k < 8 + m * 5 → get_or (sheet_bytes n m) (19 + n * 5 + k) 0 ≡ counter_byte m 2 k
  unfolding sheet_byte
  second_at k h =
      let same : 19 + n * 5 + k - (19 + n * 5) ≡ k = omega arith in
      sheet_byte_lem (19 + n * 5 + k) (omega arith)
      ∙ rw (le-ltb (19 + n * 5 + k) 11 (omega arith), le-ltb (19 + n * 5 + k) (19 + n * 5) (omega arith), same)

  pub sheet_encoded : n ≤ 32 → m ≤ 32 → sheet_bytes n m ≡ encode (counters n m)
  unfolding encode cat
  sheet_encoded h k =
      let size : 27 + n * 5 + m * 5 ≡ 11 + (8 + n * 5 + (8 + m * 5)) = omega arith in
      let second : 11 + (8 + n * 5) ≡ 19 + n * 5 = omega arith in
      let s = sheet_bytes n m in
      sym (part-whole s)
      ∙ rw (
        length_sheet,
        size,
        part-add s 0 11 (8 + n * 5 + (8 + m * 5)),
        part-add s 11 (8 + n * 5) (8 + m * 5),
        second,
        head_encoded,
        record_encoded s 11 n 1 h first_at_lem n m,
        record_encoded s (19 + n * 5) m 2 k second_at n m,
      )

  pub length_encoded : n ≤ 32 → m ≤ 32 → length (encode (counters n m)) ≡ 27 + n * 5 + m * 5
  length_encoded h k = ap length (sym (sheet_encoded h k)) ∙ length_sheet

-- Laws of the answers, of how long a listing is, and of the listing of a made table.
-- Assumes nothing.
use Rattle.std.specs.Prelude.{◌≡◌, refl, Bool, true, ℕ, zero, suc, ◌*◌, ◌^◌, ◌≤◌, ◌<◌, leb, length, take, Result, Ok, Err}
use Rattle.std.specs.Result.{result_unwrap_or}
use Rattle.std.proofs.Math.Path.{ap}
use Rattle.std.proofs.Common.{◌∙◌, suc-mul, zero-add, arith, length-append, pow_mono}
use mathlib.Core.List.{List, ◌∷◌, ◌++◌}
use borrow.Author.Tests.{lt-ltb, le-ltb, le-leb, ltb-true}
use Rattle.records.specs.Laws.Tests.{and_left, and_right}
use Rattle.records.specs.Meaning.Lists.{cat}
use Rattle.records.specs.Laws.Lists.{cat_ext}
use Rattle.records.specs.Laws.Limits.{lines_facts, horizon_facts}
use Rattle.guard_table.specs.Meaning.RowKind.{kind_for}
use Rattle.guard_table.specs.Meaning.GuardTable.{head_length, head_mode, head_inputs, head_outputs, head_horizon, head_count, output_in, next_in, guard_table}
use Rattle.guard_table.specs.Laws.GuardTable.{table_head_lem, entry_output, entry_next}
use Rattle.guard_table.specs.Meaning.Loadable.{loadable, entry_ok}
use Rattle.guard_table.specs.Laws.LoadableFacts.{loadable-head, loadable-closed, loadable_entry}
use Rattle.guard_table.specs.Model.Inside.{Closed}
use Rattle.listing_text.specs.Meaning.Listing.{decimal, line_end, head_line, row_text, listing, refused_text, entry_of, row_of, listing_of}
use Rattle.listing_text.specs.Model.Put.{Put}
use Rattle.listing_text.specs.Laws.Digits.{one_digit, two_most, three_most}
use Rattle.listing_text.specs.Laws.Pieces.{put_same}
use Rattle.listing_text.specs.Laws.Lengths.{length_entry, length-row_text, length-head, length-listing, length-refused}
use Rattle.sheet.specs.Meaning.Grounds.{ground_number}
use Rattle.sheet.specs.declared.layout.Refusal.{Refusal}
use Rattle.sheet.specs.declared.layout.Refusal.TheVariants.{Truncated, Misplaced, BadHead, BadMonitor, SeventhMonitor, LongHorizon, TooManyStates, Unrealizable, ShortResult, ShortWork}
use Rattle.solve.specs.declared.made.Made.{Made}
use Rattle.report.specs.Promises.Report.{listed_number, listed_length, text_number, text_length, Writes, outcome_due, outcome_text}
use Rattle.report.specs.declared.ListRefusal.{ListRefusal}
use Rattle.report.specs.declared.ListRefusal.TheVariants.{ShortText}

-- ---- the answer

pub writes_text : {due : Bool} {place : ℕ} {words before after : List ℕ} → due ≡ true → Put before 0 words place after
    → length words ≤ length before → Writes due words before (Ok place) after
unfolding text_number
writes_text {place = place} {words} {before} e p h =
    let size : place ≡ length words = p.place_is ∙ zero-add (length words) in
    record {
      number_is = rw (e, le-ltb (length before) (length words) h);
      size = size;
      bytes = p.bytes;
      inside = omega (arith, size, put_same p);
    }

pub writes_short : {due : Bool} {words before : List ℕ} → due ≡ true → length before < length words
    → Writes due words before (Err ShortText) before
unfolding text_number
writes_short {words = words} {before} e h =
    record { number_is = rw (e, lt-ltb (length before) (length words) h); size = refl; bytes = refl; inside = omega arith }

-- a text that is due and fits is written
pub writes_fits : {due : Bool} {words before : List ℕ} {r : Result ℕ ListRefusal} {after : List ℕ} → Writes due words before r after → due ≡ true
    → length words ≤ length before → listed_number r ≡ 0
unfolding text_number
writes_fits {words = words} {before} w e h = w.number_is ∙ rw (e, le-ltb (length before) (length words) h)

-- the length of a text that was written, 0 on a refusal
pub length_given : (r : Result ℕ ListRefusal) → result_unwrap_or r 0 ≡ listed_length r
length_given (Ok size) = refl
length_given (Err cause) = refl

-- what was made is told by the call for its case
module _ (made : Result Made Refusal) (result : List ℕ) {before : List ℕ} where
  pub outcome_refused : {cause : Refusal} → made ≡ Err cause → {r : Result ℕ ListRefusal} {number : ℕ} {after : List ℕ}
      → number ≡ ground_number cause
      → Writes true (refused_text number) before r after → Writes (outcome_due made result) (outcome_text made result) before r after
  unfolding outcome_due outcome_text
  outcome_refused e f w = rw (e, ← f) w

  module _ {table : Made} (e : made ≡ Ok table) where
    pub outcome_listed : table.length ≤ length result → {r : Result ℕ ListRefusal} {after : List ℕ}
        → Writes (loadable (take table.length result)) (listing_of (take table.length result)) before r after
        → Writes (outcome_due made result) (outcome_text made result) before r after
    unfolding outcome_due outcome_text
    outcome_listed h w = rw (e, le-leb table.length (length result) h) w

-- ---- how long a listing is

cat_most : (n c : ℕ) (f : ℕ → List ℕ) → ((k : ℕ) → k < n → length (f k) ≤ c) → length (cat n f) ≤ n * c
unfolding cat
cat_most zero c f e = omega arith
cat_most (suc n) c f e =
    omega (arith, length-append (cat n f) (f n), cat_most n c f (λ k l. e k (omega arith)), e n (omega arith), suc-mul n c)

entry_most : (t : List ℕ) (inputs k i : ℕ) → output_in t inputs k i < 10 → next_in t inputs k i < 1000 → length (entry_of t inputs k i) ≤ 6
unfolding entry_of
entry_most t inputs k i h l =
    let out = output_in t inputs k i in
    let next = next_in t inputs k i in
    omega (arith, length_entry out next, one_digit out h, three_most next l)

row_most_lem : (t : List ℕ) (inputs k : ℕ) → inputs ≤ 4 → k < 1000
    → ((i : ℕ) → i < 2 ^ inputs → (output_in t inputs k i < 10) × (next_in t inputs k i < 1000)) → length (row_of t inputs k) ≤ 101
row_most_lem t inputs k h l e =
    let entries = cat_most (2 ^ inputs) 6 (entry_of t inputs k) (λ i m. entry_most t inputs k i (e i m).0 (e i m).1) in
    let few : 2 ^ inputs ≤ 16 = pow_mono {j = 4} h in
    omega (arith, length-row_text t inputs k, entries, three_most k l)

head_most : (count inputs outputs horizon : ℕ) → count < 1000 → inputs < 10 → outputs < 10 → horizon < 100
    → length (head_line count inputs outputs horizon) ≤ 41
head_most count inputs outputs horizon a b c d =
    omega (
      arith,
      length-head count inputs outputs horizon,
      three_most count a,
      one_digit inputs b,
      one_digit outputs c,
      two_most horizon d,
    )

-- the outputs and next states of a loadable table are small
entries_small : (t : List ℕ) → loadable t ≡ true → (k i : ℕ) → k < head_count t → i < 2 ^ head_inputs t
    → (output_in t (head_inputs t) k i < 10) × (next_in t (head_inputs t) k i < 1000)
unfolding entry_ok
entries_small t e k i h l =
    let head = loadable-head t e in
    let lines = lines_facts (head_mode t) (head_inputs t) (head_outputs t) head.lines in
    let ok = loadable_entry t e k i h l in
    let outs : 2 ^ head_outputs t ≤ 8 = pow_mono {j = 3} lines.outputs_most in
    let o = output_in t (head_inputs t) k i in
    let n = next_in t (head_inputs t) k i in
    let out : o < 2 ^ head_outputs t = ltb-true o (2 ^ head_outputs t) (search and_left) in
    let next : n < head_count t = ltb-true n (head_count t) (search (and_left, and_right)) in
    (omega arith, omega (arith, head.count_most))

pub listing_most : (t : List ℕ) → loadable t ≡ true → length (listing_of t) ≤ text_length
listing_most t e =
    let head = loadable-head t e in
    let inputs = head_inputs t in
    let lines = lines_facts (head_mode t) inputs (head_outputs t) head.lines in
    let far = horizon_facts inputs (head_horizon t) head.horizon in
    let rows =
    cat_most (head_count t) 101 (row_of t inputs)
    (λ k h. row_most_lem t inputs k lines.inputs_most (omega (arith, head.count_most)) (λ i l. entries_small t e k i h l)) in
    omega (
      arith,
      rows,
      head.count_most,
      length-listing t refl,
      head_most (head_count t) inputs (head_outputs t) (head_horizon t) (omega (arith, head.count_most)) (omega (arith, lines.inputs_most))
          (omega (arith, lines.outputs_most)) (omega (arith, far.most)),
    )

-- a loadable table has a head, is as long as it says, and its next states are its own
pub loadable_filled : (t : List ℕ) → loadable t ≡ true → (head_length ≤ length t) × Closed t (head_inputs t) (head_count t)
loadable_filled t e = ((loadable-head t e).long, loadable-closed t e)

-- the numbers of refusals are small
ground_most : (g : Refusal) → ground_number g ≤ 10
ground_most Truncated = omega arith
ground_most Misplaced = omega arith
ground_most BadHead = omega arith
ground_most BadMonitor = omega arith
ground_most SeventhMonitor = omega arith
ground_most LongHorizon = omega arith
ground_most TooManyStates = omega arith
ground_most Unrealizable = omega arith
ground_most ShortResult = omega arith
ground_most ShortWork = omega arith

-- no text that is due for a maker's answer is longer than the longest listing
pub outcome_most : (made : Result Made Refusal) (result : List ℕ) → outcome_due made result ≡ true → length (outcome_text made result) ≤ text_length
unfolding outcome_due outcome_text
outcome_most (Ok made) result e = listing_most (take made.length result)
    (and_right (leb made.length (length result)) (loadable (take made.length result)) e)
outcome_most (Err cause) result e =
    let number = ground_number cause in
    omega (arith, length-refused number, three_most number (omega (arith, ground_most cause)))

-- ---- the listing of a made table is that of its entries

module _ (mode inputs outputs horizon count : ℕ) (out next : ℕ → ℕ → ℕ) where
  pub listing_made : listing_of (guard_table mode inputs outputs horizon count out next) ≡ listing count inputs outputs horizon out next
  unfolding listing_of listing row_text
  listing_made =
      let t = guard_table mode inputs outputs horizon count out next in
      let head = table_head_lem (kind_for count) mode inputs outputs horizon count out next in
      rw (head.count_is, head.inputs_is, head.outputs_is, head.horizon_is)
      (ap (λ (l : List ℕ). head_line count inputs outputs horizon ++ l)
      (cat_ext count _ _ (λ k h. ap (λ (l : List ℕ). decimal k ++ (58 ∷ (l ++ line_end)))
      (cat_ext (2 ^ inputs) _ _ (λ i l. rw (
        entry_output (kind_for count) mode inputs outputs horizon count out next k h i l,
        entry_next (kind_for count) mode inputs outputs horizon count out next k h i
            l,
      ))))))

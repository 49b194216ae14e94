-- How long the pieces of a listing are.
-- Assumes nothing.
use Rattle.std.specs.Prelude.{◌≡◌, List, ◌∷◌, ◌++◌, ℕ, ◌+◌, ◌^◌, length}
use Rattle.std.proofs.Common.{sym, ap, ◌∙◌, arith, length-append}
use Rattle.records.specs.Meaning.Lists.{cat}
use Rattle.records.specs.Laws.Lists.{cat_none, cat_more}
use Rattle.guard_table.specs.Meaning.GuardTable.{head_inputs, head_outputs, head_horizon, head_count}
use Rattle.listing_text.specs.Meaning.Listing.{decimal, line_end, labelled, head_line, entry_text, row_text, refused_text, entry_of, row_of, listing_of}
use Rattle.listing_text.specs.Laws.Pieces.{listing_parts}

-- blocks, as a loop adds them up
pub length_none : (f : ℕ → List ℕ) → length (cat 0 f) ≡ 0
length_none f = ap length (cat_none f)

pub length_more : (n : ℕ) (f : ℕ → List ℕ) → length (cat (n + 1) f) ≡ length (cat n f) + length (f n)
length_more n f = ap length (cat_more n f) ∙ length-append (cat n f) (f n)

pub length_entry : (out next : ℕ) → length (entry_text out next) ≡ 2 + length (decimal out) + length (decimal next)
unfolding entry_text
length_entry out next = omega (arith, length-append (decimal out) (62 ∷ decimal next))

pub length-row_text : (t : List ℕ) (inputs k : ℕ)
    → length (row_of t inputs k) ≡ 2 + length (decimal k) + length (cat (2 ^ inputs) (entry_of t inputs k))
unfolding row_of row_text entry_of
length-row_text t inputs k =
    let entries = cat (2 ^ inputs) (entry_of t inputs k) in
    omega (arith, length-append (decimal k) (58 ∷ (entries ++ line_end)), length-append entries line_end)

pub length-head : (count inputs outputs horizon : ℕ)
    → length (head_line count inputs outputs horizon)
    ≡ 34 + length (decimal count) + length (decimal inputs) + length (decimal outputs) + length (decimal horizon)
unfolding head_line labelled
length-head count inputs outputs horizon = simp length-append (omega arith)

-- of a table whose count was read
pub length-listing : (t : List ℕ) {count : ℕ} → count ≡ head_count t
    → length (listing_of t)
    ≡ length (head_line count (head_inputs t) (head_outputs t) (head_horizon t)) + length (cat count (row_of t (head_inputs t)))
length-listing t {count} e =
    ap length (sym (listing_parts t e))
    ∙ length-append (head_line count (head_inputs t) (head_outputs t) (head_horizon t)) (cat count (row_of t (head_inputs t)))

pub closed_length : (t : List ℕ) {bytes : List ℕ} {inputs count : ℕ} → bytes ≡ t → inputs ≡ head_inputs t → count ≡ head_count t
    → length (listing_of t)
    ≡ length (head_line count inputs (head_outputs t) (head_horizon t)) + length (cat count (row_of bytes inputs))
closed_length t b i e = rw (b, i) (length-listing t e)

pub length-refused : (number : ℕ) → length (refused_text number) ≡ 9 + length (decimal number)
unfolding refused_text labelled
length-refused number = simp length-append (omega arith)

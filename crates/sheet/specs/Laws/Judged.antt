-- What the reader's tests of a head and of a monitor say of the bytes, and the other way round.
-- Assumes nothing.
use Rattle.std.specs.Prelude.{◌≡◌, refl, Bool, true, not, ◌&&◌, ◌||◌, ◌≢◌, List, ℕ, ◌+◌, ◌-◌, ◌*◌, ◌%◌, ◌≤◌, ◌<◌, ltb, leb, eqb, get_or}
use Rattle.std.proofs.Common.{arith, ltb-true, leb-true, eqb-true, lt-ltb, le-leb, eq-eqb, ne_eqb}
use Rattle.std.proofs.lemmas.Bool.{eqb-false, not-true}
use Rattle.records.specs.Laws.Tests.{both_ways, by_test, and_left, and_right, or-not}
use Rattle.records.specs.Laws.Bounded.{all-at, all_of}
use Rattle.records.specs.Meaning.Limits.{max_inputs, max_outputs, max_lines, max_monitor_states, literal_end, lines_ok}
use Rattle.records.specs.Laws.Limits.{Lines, lines_facts}
use Rattle.sheet.specs.Meaning.Decoded.{guard_lines, letters_read}
use Rattle.sheet_fields.specs.Meaning.Places.{head_numbers, mode_at, site_at, outputs_at, matching_at, literals_from, monitor_numbers, role_at, weight_at, states_at, first_at, accept_from, rows_from}
use Rattle.sheet_fields.specs.Meaning.Head.{site_ok, fresh_line, literal_ok, literals_ok, numbers_ok, head_ok}
use Rattle.sheet_fields.specs.Meaning.Monitor.{role_ok, states_ok, bytes_most, monitor_ok}

-- ---- the head

-- a head's numbers
pub record JudgedNumbers (mode site outputs matching size : ℕ) : Type 0 where
  pub mode_most : mode ≤ 1
  pub site_most : site ≤ max_inputs
  pub outputs_least : 1 ≤ outputs
  pub outputs_most : outputs ≤ max_outputs
  pub inputs : guard_lines mode site outputs ≤ max_inputs
  pub lines : guard_lines mode site outputs + outputs ≤ max_lines
  pub size_is : size ≡ head_numbers + outputs
  pub unmatched : mode ≡ 0 → matching ≡ 0

-- its literals
pub record Literals (s : List ℕ) (at outputs : ℕ) : Type 0 where
  pub byte : (j : ℕ) → j < outputs → get_or s (at + j) 0 < literal_end
  pub line : (j : ℕ) → j < outputs → get_or s (at + j) 0 % 8 < outputs
  pub once : (i j : ℕ) → i < j → j < outputs → get_or s (at + i) 0 % 8 ≡ get_or s (at + j) 0 % 8 → ⊥

numbers_facts : (mode site outputs matching size : ℕ) → numbers_ok mode site outputs matching size ≡ true
    → JudgedNumbers mode site outputs matching size
unfolding numbers_ok site_ok
numbers_facts m i o w size e =
    let l : Lines m (guard_lines m i o) o = lines_facts m (guard_lines m i o) o (search (and_left, and_right) depth 9) in
    record {
      mode_most = l.mode_is;
      site_most = leb-true i max_inputs (search (and_left, and_right) depth 9);
      outputs_least = l.outputs_least;
      outputs_most = l.outputs_most;
      inputs = l.inputs_most;
      lines = l.lines_most;
      size_is = eqb-true size (head_numbers + o) (search (and_left, and_right) depth 9);
      unmatched = λ q. eqb-true w 0 (or-not (eqb m 1) (eqb w 0) (search (and_left, and_right) depth 9) (ne_eqb m 1 (λ z. omega arith)));
    }

-- in mode 1 the guard reads the outputs' lines too
shield : (mode site outputs : ℕ) → mode ≤ 1 → eqb mode 0 || leb outputs (guard_lines mode site outputs) ≡ true
unfolding guard_lines
shield m i o h =
    by_test (eqb m 0) (λ e. rw e)
    (λ e. rw (e, eq-eqb m 1 (omega (arith, eqb-false m 0 e))) (le-leb o (i + o) (omega arith)))

numbers_test : (mode site outputs matching size : ℕ) → JudgedNumbers mode site outputs matching size
    → numbers_ok mode site outputs matching size ≡ true
unfolding numbers_ok site_ok lines_ok
numbers_test m i o w size n =
    rw (
      le-leb i max_inputs n.site_most,
      le-leb o max_outputs n.outputs_most,
      le-leb m 1 n.mode_most,
      le-leb (guard_lines m i o) max_inputs n.inputs,
      le-leb 1 o n.outputs_least,
      le-leb (guard_lines m i o + o) max_lines n.lines,
      shield m i o n.mode_most,
      eq-eqb size (head_numbers + o) n.size_is,
    )
    (by_test (eqb m 1) (λ e. rw e)
    (λ e. rw (e, eq-eqb w 0 (n.unmatched (omega (arith, n.mode_most, eqb-false m 1 e))))))

literals_facts : (s : List ℕ) (at outputs : ℕ) → literals_ok s at outputs ≡ true → Literals s at outputs
unfolding literals_ok literal_ok fresh_line
literals_facts s at o e =
    let each : (j : ℕ) → j < o → literal_ok s at o j ≡ true = all-at o (λ j. literal_ok s at o j) e in
    let first : (j : ℕ) → Bool = λ j. ltb (get_or s (at + j) 0) literal_end in
    let second : (j : ℕ) → Bool = λ j. ltb (get_or s (at + j) 0 % 8) o in
    let third : (j : ℕ) → Bool = λ j. fresh_line s at j in
    record {
      byte = λ j h. ltb-true (get_or s (at + j) 0) literal_end (and_left (first j) (second j && third j) (each j h));
      line = λ j h. ltb-true (get_or s (at + j) 0 % 8) o
          (and_left (second j) (third j) (and_right (first j) (second j && third j) (each j h)));
      once = λ i j l h. eqb-false (get_or s (at + i) 0 % 8) (get_or s (at + j) 0 % 8)
          (not-true (eqb (get_or s (at + i) 0 % 8) (get_or s (at + j) 0 % 8))
          (all-at j (λ i. not (eqb (get_or s (at + i) 0 % 8) (get_or s (at + j) 0 % 8)))
          (and_right (second j) (third j) (and_right (first j) (second j && third j) (each j h))) i l));
    }

literals-test : (s : List ℕ) (at outputs : ℕ) → Literals s at outputs → literals_ok s at outputs ≡ true
unfolding literals_ok literal_ok fresh_line
literals-test s at o l =
    all_of o (λ j. literal_ok s at o j)
    (λ j h.
    rw (lt-ltb (get_or s (at + j) 0) literal_end (l.byte j h), lt-ltb (get_or s (at + j) 0 % 8) o (l.line j h))
    (all_of j (λ i. not (eqb (get_or s (at + i) 0 % 8) (get_or s (at + j) 0 % 8)))
    (λ i k. rw (ne_eqb (get_or s (at + i) 0 % 8) (get_or s (at + j) 0 % 8) (l.once i j k h)))))

-- what a head that passes its tests has
pub head_judged : (s : List ℕ) (size : ℕ) → head_ok s 4 size ≡ true
    → JudgedNumbers (mode_at s 4) (site_at s 4) (outputs_at s 4) (matching_at s 4) size × Literals s (literals_from 4) (outputs_at s 4)
unfolding head_ok
head_judged s size e = (
  numbers_facts (mode_at s 4) (site_at s 4) (outputs_at s 4) (matching_at s 4) size (search (and_left, and_right) depth 9),
  literals_facts s (literals_from 4) (outputs_at s 4) (search (and_left, and_right) depth 9),
)

-- and that such a head passes them
pub head-test : (s : List ℕ) (size : ℕ) → JudgedNumbers (mode_at s 4) (site_at s 4) (outputs_at s 4) (matching_at s 4) size
    → Literals s (literals_from 4) (outputs_at s 4) → head_ok s 4 size ≡ true
unfolding head_ok
head-test s size n l =
    rw (
      le-leb head_numbers size (omega (arith, n.size_is)),
      numbers_test (mode_at s 4) (site_at s 4) (outputs_at s 4) (matching_at s 4) size n,
      literals-test s (literals_from 4) (outputs_at s 4) l,
    )

-- ---- a monitor

-- role and weight
pub record Role (mode role weight : ℕ) : Type 0 where
  pub role_most : role ≤ 2
  pub limit : role ≡ 2 → mode ≡ 1
  pub soft : role ≡ 1 → 1 ≤ weight
  pub unweighted : (role ≡ 1 → ⊥) → weight ≡ 0

-- the body of a monitor whose rows have w letters
pub record Body (s : List ℕ) (at w size : ℕ) : Type 0 where
  pub states_least : 1 ≤ states_at s at
  pub states_most : states_at s at ≤ max_monitor_states
  pub start : first_at s at < states_at s at
  pub size_is : size ≡ monitor_numbers + states_at s at + states_at s at * w
  pub accept : (q : ℕ) → q < states_at s at → get_or s (accept_from at + q) 0 ≤ 1
  pub next : (k : ℕ) → k < states_at s at * w → get_or s (rows_from s at + k) 0 < states_at s at

role_facts : (mode role weight : ℕ) → role_ok mode role weight ≡ true → Role mode role weight
unfolding role_ok
role_facts m r w e =
    by_test (eqb r 0)
    (λ a.
    let q : r ≡ 0 = eqb-true r 0 a in
    let v : w ≡ 0 = eqb-true w 0 (rw a at e) in
    record { role_most = omega arith; limit = λ z. absurd (omega arith); soft = λ z. absurd (omega arith); unweighted = λ z. v })
    (λ a. by_test (eqb r 1)
    (λ b.
    let q : r ≡ 1 = eqb-true r 1 b in
    let v : w ≢ 0 = eqb-false w 0 (not-true (eqb w 0) (rw (a, b) at e)) in
    record { role_most = omega arith; limit = λ z. absurd (omega arith); soft = λ z. omega arith; unweighted = λ z. absurd (z q) })
    (λ b. by_test (eqb r 2)
    (λ c.
    let q : r ≡ 2 = eqb-true r 2 c in
    let t : eqb m 1 && eqb w 0 ≡ true = rw (a, b, c) at e in
    record {
      role_most = omega arith;
      limit = λ z. eqb-true m 1 (and_left (eqb m 1) (eqb w 0) t);
      soft = λ z. absurd (omega arith);
      unweighted = λ z. eqb-true w 0 (and_right (eqb m 1) (eqb w 0) t);
    })
    (λ c. both_ways (rw (a, b, c) at e) refl)))

role_test : (mode role weight : ℕ) → Role mode role weight → role_ok mode role weight ≡ true
unfolding role_ok
role_test m r w h =
    by_test (eqb r 0)
    (λ a. rw a (eq-eqb w 0 (h.unweighted (λ z. omega (arith, eqb-true r 0 a)))))
    (λ a. by_test (eqb r 1)
    (λ b. rw (a, b, ne_eqb w 0 (λ z. omega (arith, h.soft (eqb-true r 1 b)))))
    (λ b.
    let q : r ≡ 2 = omega (arith, h.role_most, eqb-false r 0 a, eqb-false r 1 b) in
    rw (a, b, eq-eqb r 2 q, eq-eqb m 1 (h.limit q), eq-eqb w 0 (h.unweighted (eqb-false r 1 b)))))

-- what a monitor that passes its tests has
pub monitor_facts : (s : List ℕ) (mode site outputs at size : ℕ) → monitor_ok s mode site outputs at size ≡ true
    → Role mode (role_at s at) (weight_at s at) × Body s at (letters_read (role_at s at) site outputs) size
unfolding monitor_ok states_ok bytes_most
monitor_facts s mode site outputs at size e =
    let n : ℕ = states_at s at in
    let w : ℕ = letters_read (role_at s at) site outputs in
    let least : 1 ≤ states_at s at = leb-true 1 n (search (and_left, and_right) depth 9) in (
      role_facts mode (role_at s at) (weight_at s at) (search (and_left, and_right) depth 9),
      record {
        states_least = least;
        states_most = leb-true n max_monitor_states (search (and_left, and_right) depth 9);
        start = ltb-true (first_at s at) n (search (and_left, and_right) depth 9);
        size_is = eqb-true size (monitor_numbers + n + n * w) (search (and_left, and_right) depth 9);
        accept = λ q l. leb-true (get_or s (accept_from at + q) 0) 1
            (all-at n (λ k. leb (get_or s (accept_from at + k) 0) 1) (search (and_left, and_right) depth 9) q l);
        next = λ k l. omega (
          arith,
          leb-true (get_or s (rows_from s at + k) 0) (n - 1)
              (all-at (n * w) (λ k. leb (get_or s (rows_from s at + k) 0) (n - 1)) (search (and_left, and_right) depth 9) k l),
        );
      },
    )

-- and that such a monitor passes them
pub monitor_test : (s : List ℕ) (mode site outputs at size : ℕ) → Role mode (role_at s at) (weight_at s at)
    → Body s at (letters_read (role_at s at) site outputs) size → monitor_ok s mode site outputs at size ≡ true
unfolding monitor_ok states_ok bytes_most
monitor_test s mode site outputs at size r b =
    let n : ℕ = states_at s at in
    let w : ℕ = letters_read (role_at s at) site outputs in
    rw (
      le-leb monitor_numbers size (omega (arith, b.size_is)),
      role_test mode (role_at s at) (weight_at s at) r,
      le-leb 1 n b.states_least,
      le-leb n max_monitor_states b.states_most,
      lt-ltb (first_at s at) n b.start,
      eq-eqb size (monitor_numbers + n + n * w) b.size_is,
      all_of n (λ k. leb (get_or s (accept_from at + k) 0) 1) (λ q l. le-leb (get_or s (accept_from at + q) 0) 1 (b.accept q l)),
      all_of (n * w) (λ k. leb (get_or s (rows_from s at + k) 0) (n - 1))
          (λ k l. le-leb (get_or s (rows_from s at + k) 0) (n - 1) (omega (arith, b.next k l))),
    )

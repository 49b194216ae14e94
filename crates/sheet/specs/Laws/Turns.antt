-- The records of an accepted sheet in turn, by index: where each begins, the layout after so many monitors, and that the
-- reader accepts exactly where each turn passes its tests and the last one ends with the bytes.
-- Assumes nothing.
use Rattle.std.specs.Prelude.{◌≡◌, refl, Bool, true, false, cond, List, ℕ, zero, suc, ◌+◌, ◌≤◌, ◌<◌, eqb, leb, length, set, replicate, Result, Ok, Err}
use Rattle.std.proofs.Common.{◌∙◌, zero-add, add-zero, add-suc, add-one, arith, length-set, get_or-set_same, get_or-set_other, eqb-true, leb-false, eq-eqb}
use Rattle.std.proofs.lemmas.Bool.{lt-leb}
use Rattle.records.specs.Laws.Tests.{by_test}
use Rattle.records.specs.Laws.Bounded.{cases_suc}
use Rattle.records.specs.Meaning.Records.{size_at, kind_at, body_at, end_at}
use Rattle.records.specs.Laws.Cursor.{read_cases, read_end, read_record}
use Rattle.records.specs.Meaning.Limits.{max_monitors, horizon_ok}
use Rattle.sheet.specs.Meaning.Decoded.{guard_lines}
use Rattle.sheet.specs.Model.Layout.{no_monitor, with_monitor}
use Rattle.sheet.specs.Meaning.Grounds.{verdict_number}
use Rattle.sheet.specs.Model.Where.{placed}
use Rattle.sheet_fields.specs.Meaning.Places.{mode_at, site_at, outputs_at, horizon_at, matching_at}
use Rattle.sheet_fields.specs.Meaning.Head.{head_ok}
use Rattle.sheet_fields.specs.Meaning.Monitor.{monitor_ok}
use Rattle.sheet.specs.Model.HeadRecord.{head_sheet, read_head}
use Rattle.sheet.specs.Model.MonitorRecord.{monitor_at, take_monitor}
use Rattle.sheet.specs.Model.Reader.{take_record, on_found, read_records, first_found, reading}
use Rattle.sheet.specs.Laws.Verdicts.{chained}
use Rattle.sheet.specs.declared.layout.Monitor.{Monitor}
use Rattle.sheet.specs.declared.layout.Sheet.{Sheet}
use Rattle.sheet.specs.declared.layout.Refusal.TheVariants.{Misplaced, BadHead, BadMonitor, SeventhMonitor, LongHorizon}
use Rattle.sheet.specs.declared.layout.Refusal.{Refusal}

-- where the record of monitor j begins, if there is one; each ends where the next begins
unfoldable pub offset : List ℕ → ℕ → ℕ
offset s zero = end_at s 0
offset s (suc j) = end_at s (offset s j)

-- the places of the first k monitors
unfoldable pub monitor_places : List ℕ → ℕ → List Monitor
monitor_places s zero = replicate max_monitors no_monitor
monitor_places s (suc k) = set (monitor_places s k) k (monitor_at s (body_at (offset s k)))

-- the layout of the head and the first k monitors
unfoldable pub upto : List ℕ → ℕ → Sheet
upto s k =
    record {
      mode = mode_at s 4;
      site = site_at s 4;
      inputs = guard_lines (mode_at s 4) (site_at s 4) (outputs_at s 4);
      outputs = outputs_at s 4;
      horizon = horizon_at s 4;
      matching = matching_at s 4;
      literals = (head_sheet s 4).literals;
      monitors = monitor_places s k;
      count = k;
    }

-- the record of monitor j passes its tests
pub record Turn (s : List ℕ) (j : ℕ) : Type 0 where
  pub kind : kind_at s (offset s j) ≡ 2
  pub ok : monitor_ok s (upto s j).mode (upto s j).site (upto s j).outputs (body_at (offset s j)) (size_at s (offset s j)) ≡ true

-- a head and k monitors pass their tests and fill the bytes
pub record Chain (s : List ℕ) (k : ℕ) : Type 0 where
  pub kind : kind_at s 0 ≡ 1
  pub head : head_ok s 4 (size_at s 0) ≡ true
  pub horizon : horizon_ok (guard_lines (mode_at s 4) (site_at s 4) (outputs_at s 4)) (horizon_at s 4) ≡ true
  pub count : k ≤ max_monitors
  pub turn : (j : ℕ) → j < k → Turn s j
  pub ends : offset s k ≡ length s

-- ---- the layout's parts

upto_none : (s : List ℕ) → head_sheet s 4 ≡ upto s 0
unfolding head_sheet upto monitor_places
upto_none s = refl

upto_more : (s : List ℕ) (k : ℕ) → with_monitor (upto s k) (monitor_at s (body_at (offset s k))) ≡ upto s (suc k)
unfolding with_monitor upto monitor_places
upto_more s k = rw (add-one k)

length-places : (s : List ℕ) (k : ℕ) → length (monitor_places s k) ≡ max_monitors
unfolding monitor_places
length-places s zero = refl
length-places s (suc k) = length-set (monitor_places s k) k (monitor_at s (body_at (offset s k))) ∙ length-places s k

-- monitor j lies where its record begins
pub placed_at : (s : List ℕ) (k j : ℕ) → k ≤ max_monitors → j < k → placed (upto s k) j ≡ monitor_at s (body_at (offset s j))
unfolding upto monitor_places
placed_at s zero j h l = absurd (omega arith)
placed_at s (suc k) j h l =
    cases_suc j k l
    (λ u. get_or-set_other (monitor_places s k) k j (monitor_at s (body_at (offset s k))) no_monitor (omega arith)
    ∙ placed_at s k j (omega arith) u)
    (λ e. rw e (get_or-set_same (monitor_places s k) k (monitor_at s (body_at (offset s k))) no_monitor (rw (length-places s k) (omega arith))))

room : (s : List ℕ) (k : ℕ) → k < max_monitors → (upto s k).count < max_monitors
unfolding upto
room s k h = h

below : (s : List ℕ) (k : ℕ) → leb max_monitors (upto s k).count ≡ false → k < max_monitors
unfolding upto
below s k e = leb-false max_monitors k e

-- every record takes some bytes
pub offset_up : (s : List ℕ) (j m : ℕ) → offset s j + m ≤ offset s (j + m)
unfolding offset
offset_up s j zero = rw (add-zero j) (omega arith)
offset_up s j (suc m) = rw (add-suc j m) (omega (arith, offset_up s j m))

-- ---- one record

-- a record that is accepted passes its tests
take-passes : (s : List ℕ) (h : Sheet) (kind start size : ℕ) (next : Sheet → Result Sheet Refusal)
    → chained (take_record s h (record { kind = kind; start = start; size = size })) next ≡ 0
    → (eqb kind 2 ≡ true) × (leb max_monitors h.count ≡ false) × (monitor_ok s h.mode h.site h.outputs start size ≡ true)
unfolding take_record take_monitor
take-passes s h kind start size next = go (eqb kind 2) (leb max_monitors h.count)
    (monitor_ok s h.mode h.site h.outputs start size)
  where
    go : (a b c : Bool)
        → chained
        (cond a (cond b (Err SeventhMonitor) (cond c (Ok (with_monitor h (monitor_at s start))) (Err BadMonitor)))
        (Err Misplaced))
        next ≡ 0
        → (a ≡ true) × (b ≡ false) × (c ≡ true)
    go true true c e = absurd (omega arith)
    go true false true e = (refl, refl, refl)
    go true false false e = absurd (omega arith)
    go false b c e = absurd (omega arith)

-- and one that passes them is accepted
take-accepts : (s : List ℕ) (h : Sheet) (kind start size : ℕ) → kind ≡ 2 → h.count < max_monitors
    → monitor_ok s h.mode h.site h.outputs start size ≡ true
    → take_record s h (record { kind = kind; start = start; size = size }) ≡ Ok (with_monitor h (monitor_at s start))
unfolding take_record take_monitor
take-accepts s h kind start size e l m = rw (eq-eqb kind 2 e, lt-leb max_monitors h.count l, m)

head-passes : (s : List ℕ) (start size : ℕ) (next : Sheet → Result Sheet Refusal) → chained (read_head s start size) next ≡ 0
    → (head_ok s start size ≡ true)
    × (horizon_ok (guard_lines (mode_at s start) (site_at s start) (outputs_at s start)) (horizon_at s start) ≡ true)
unfolding read_head
head-passes s start size next =
    go (head_ok s start size) (horizon_ok (guard_lines (mode_at s start) (site_at s start) (outputs_at s start)) (horizon_at s start))
  where
    go : (a b : Bool)
        → chained (cond a (cond b (Ok (head_sheet s start)) (Err LongHorizon)) (Err BadHead)) next ≡ 0
        → (a ≡ true) × (b ≡ true)
    go true true e = (refl, refl)
    go true false e = absurd (omega arith)
    go false b e = absurd (omega arith)

-- ---- the records after the head

-- monitors j to k pass their tests and fill the bytes, and the reader says so
record Walk (n : ℕ) (s : List ℕ) (j k : ℕ) : Type 0 where
  from : j ≤ k
  count : k ≤ max_monitors
  turn : (i : ℕ) → j ≤ i → i < k → Turn s i
  ends : offset s k ≡ length s
  whole : read_records n s (upto s j) (offset s j) ≡ Ok (upto s k)

turn_here : (s : List ℕ) (j k : ℕ) → Turn s j → ((i : ℕ) → suc j ≤ i → i < k → Turn s i) → (i : ℕ) → j ≤ i → i < k → Turn s i
turn_here s j k t f i h l = elim (native.Mathlib.Decide.ℕ_discrete i j) [ yes e ↦ rw e t | no e ↦ f i (omega arith) l ]

step_whole : (n : ℕ) (s : List ℕ) (j : ℕ) → j < max_monitors → Turn s j → offset s (suc j) ≤ length s
    → read_records (suc n) s (upto s j) (offset s j) ≡ read_records n s (upto s (suc j)) (offset s (suc j))
unfolding read_records on_found offset
step_whole n s j l t h =
    rw (
      read_record s (offset s j) h,
      take-accepts s (upto s j) (kind_at s (offset s j)) (body_at (offset s j)) (size_at s (offset s j)) t.kind (room s j l) t.ok,
      upto_more s j,
    )

walk_finds : (n : ℕ) (s : List ℕ) (j : ℕ) → j ≤ max_monitors → offset s j ≤ length s
    → verdict_number (read_records n s (upto s j) (offset s j)) ≡ 0 → (k : ℕ) × Walk n s j k
unfolding read_records on_found offset
walk_finds zero s j h l e = absurd (omega arith)
walk_finds (suc n) s j h l e =
    read_cases s (offset s j)
    (λ f m. (j, record { from = omega arith; count = h; turn = λ i u v. absurd (omega arith); ends = omega arith; whole = rw f }))
    (λ f m. absurd (let z : ◌≡◌ {A = ℕ} 1 0 = rw f at e in omega arith))
    (λ f m.
    let passes : (eqb (kind_at s (offset s j)) 2 ≡ true) × (leb max_monitors (upto s j).count ≡ false)
    × (monitor_ok s (upto s j).mode (upto s j).site (upto s j).outputs (body_at (offset s j)) (size_at s (offset s j)) ≡ true) =
    take-passes s (upto s j) (kind_at s (offset s j)) (body_at (offset s j)) (size_at s (offset s j))
    (λ h'. read_records n s h' (offset s (suc j))) (rw f at e) in
    let t : Turn s j = record { kind = eqb-true (kind_at s (offset s j)) 2 passes.0; ok = passes.2 } in
    let more : read_records (suc n) s (upto s j) (offset s j) ≡ read_records n s (upto s (suc j)) (offset s (suc j)) =
    step_whole n s j (below s j passes.1) t m in
    let r : (k : ℕ) × Walk n s (suc j) k = walk_finds n s (suc j) (below s j passes.1) m (rw more at e) in (
      r.0,
      record {
        from = omega arith;
        count = r.1.count;
        turn = turn_here s j r.0 t r.1.turn;
        ends = r.1.ends;
        whole = ◌∙◌ {c = Ok (upto s r.0)} more r.1.whole;
      },
    ))

walk_reaches : (m n : ℕ) (s : List ℕ) (j k : ℕ) → j + m ≡ k → m < n → k ≤ max_monitors → ((i : ℕ) → i < k → Turn s i) → offset s k ≡ length s
    → read_records n s (upto s j) (offset s j) ≡ Ok (upto s k)
unfolding read_records on_found
walk_reaches m zero s j k q l h t e = absurd (omega arith)
walk_reaches zero (suc n) s j k q l h t e =
    let here : j ≡ k = omega arith in
    rw (here, read_end s (offset s k) (omega arith))
walk_reaches (suc m) (suc n) s j k q l h t e =
    let next : suc j + m ≡ k = omega arith in
    let up : offset s (suc j) + m ≤ offset s k = rw next at (offset_up s (suc j) m) in
    step_whole n s j (omega arith) (t j (omega arith)) (omega arith) ∙ walk_reaches m n s (suc j) k next (omega arith) h t e

-- ---- the whole sheet

head-whole : (s : List ℕ) → kind_at s 0 ≡ 1 → head_ok s 4 (size_at s 0) ≡ true
    → horizon_ok (guard_lines (mode_at s 4) (site_at s 4) (outputs_at s 4)) (horizon_at s 4) ≡ true → end_at s 0 ≤ length s
    → reading s ≡ read_records (suc (length s)) s (upto s 0) (offset s 0)
unfolding reading first_found read_head offset
head-whole s k a b h = rw (read_record s 0 h, eq-eqb (kind_at s 0) 1 k, a, b, upto_none s)

-- an accepted sheet is a head and monitors that pass their tests, and its layout is theirs
pub chain_of : (s : List ℕ) → verdict_number (reading s) ≡ 0 → (k : ℕ) × Chain s k × (reading s ≡ Ok (upto s k))
unfolding reading first_found offset
chain_of s e =
    read_cases s 0
    (λ f m. absurd (let z : ◌≡◌ {A = ℕ} 2 0 = rw f at e in omega arith))
    (λ f m. absurd (let z : ◌≡◌ {A = ℕ} 1 0 = rw f at e in omega arith))
    (λ f m.
    by_test (eqb (kind_at s 0) 1)
    (λ t.
    let passes : (head_ok s 4 (size_at s 0) ≡ true)
    × (horizon_ok (guard_lines (mode_at s 4) (site_at s 4) (outputs_at s 4)) (horizon_at s 4) ≡ true) =
    head-passes s 4 (size_at s 0) (λ h. read_records (suc (length s)) s h (offset s 0)) (rw (f, t) at e) in
    let kind : kind_at s 0 ≡ 1 = eqb-true (kind_at s 0) 1 t in
    let more : reading s ≡ read_records (suc (length s)) s (upto s 0) (offset s 0) = head-whole s kind passes.0 passes.1 m in
    let r : (k : ℕ) × Walk (suc (length s)) s 0 k = walk_finds (suc (length s)) s 0 (omega arith) m (rw more at e) in (
      r.0,
      record {
        kind = kind;
        head = passes.0;
        horizon = passes.1;
        count = r.1.count;
        turn = λ j. r.1.turn j (omega arith);
        ends = r.1.ends;
      },
      more ∙ r.1.whole,
    ))
    (λ t. absurd (let z : ◌≡◌ {A = ℕ} 2 0 = rw (f, t) at e in omega arith)))

-- and where they do, the sheet is accepted with that layout
pub chain_reads : (s : List ℕ) (k : ℕ) → Chain s k → reading s ≡ Ok (upto s k)
unfolding offset
chain_reads s k c =
    let up : offset s 0 + k ≤ offset s k = rw (zero-add k) at (offset_up s 0 k) in
    head-whole s c.kind c.head c.horizon (omega (arith, c.ends))
    ∙ walk_reaches k (suc (length s)) s 0 k (zero-add k) (omega (arith, c.ends)) c.count c.turn c.ends

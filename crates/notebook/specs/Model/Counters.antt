-- The counters of document 01's notebook: two automata that never break, moved by different output lines.
-- Assumes nothing.
use Rattle.std.specs.Prelude.{◌≡◌, true, cond, List, [], ◌∷◌, ℕ, ◌+◌, ◌-◌, ◌*◌, ◌/◌, ◌%◌, eqb, ltb, Result}
use Rattle.records.specs.Meaning.Lists.{tab}
use Rattle.sheet.specs.Meaning.Decoded.{Automaton, Decoded}
use Rattle.solve.specs.Model.Making.{sheet_of, making_number}
use Rattle.solve.specs.Meaning.Made.{made_number, made_states}
use Rattle.sheet.specs.declared.layout.Refusal.{Refusal}
use Rattle.solve.specs.declared.made.Made.{Made}

-- a counter of n states in state q after output o: one further if the line is on, and from the last to the first; `power` is
-- 2 to the line's number
unfoldable pub count_on : ℕ → ℕ → ℕ → ℕ → ℕ
count_on n power q o = cond (eqb (o / power % 2) 1) (cond (eqb (q + 1) n) 0 (q + 1)) q

-- hard, with all states accepting
abbrev pub counter : ℕ → ℕ → Automaton
counter n power =
    record { role = 0; weight = 0; start = 0; accept = tab n (λ q. 1); rows = tab n (λ q. tab 4 (count_on n power q)) }

-- the sheet: no inputs, two outputs, H = 0; line 0 moves a counter of n states, line 1 one of m
abbrev pub counters : ℕ → ℕ → Decoded
counters n m =
    record {
      mode = 0;
      site = 0;
      outputs = 2;
      horizon = 0;
      matching = 0;
      literals = 0 ∷ 1 ∷ [];
      monitors = counter n 1 ∷ counter m 2 ∷ [];
    }

-- ---- its bytes, as the program writes them: byte k

-- of the head: no inputs, two outputs, H = 0, both lines preferred on
unfoldable pub head_byte : ℕ → ℕ
head_byte k = cond (eqb k 0) 7 (cond (eqb k 2) 1 (cond (eqb k 6) 2 (cond (eqb k 10) 1 0)))

-- of a counter's record before its tables: hard, n states, the first is the start
unfoldable pub front_byte : ℕ → ℕ → ℕ
front_byte n k = cond (eqb k 0) (4 + n * 5) (cond (eqb k 2) 2 (cond (eqb k 6) n 0))

-- of a counter's record: the front, the accept bytes, the states after each state and output
unfoldable pub counter_byte : ℕ → ℕ → ℕ → ℕ
counter_byte n power k =
    cond (ltb k 8) (front_byte n k)
    (cond (ltb k (8 + n)) 1 (count_on n power ((k - (8 + n)) / 4) ((k - (8 + n)) % 4)))

-- of the sheet: its head has 11 bytes, a counter's record 8 and 5 for each state
unfoldable pub sheet_byte : ℕ → ℕ → ℕ → ℕ
sheet_byte n m k =
    cond (ltb k 11) (head_byte k)
    (cond (ltb k (19 + n * 5)) (counter_byte n 1 (k - 11)) (counter_byte m 2 (k - (19 + n * 5))))

unfoldable pub sheet_bytes : ℕ → ℕ → List ℕ
sheet_bytes n m = tab (27 + n * 5 + m * 5) (sheet_byte n m)

-- ---- what the makers answer to bytes: document 01's number, and the states of the table

pub record Answered (table : Decoded → List ℕ) (stateCounts : Decoded → ℕ) (s : List ℕ) (room : ℕ) (r : Result Made Refusal) :
    Type 0 where
  pub number : made_number r ≡ making_number table true s room
  pub states : made_states r ≡ cond (eqb (made_number r) 0) (stateCounts (sheet_of s)) 0

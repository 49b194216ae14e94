-- The sheets of document 01's notebook and some more, as bytes. All but A's are the encodings of decoded sheets.
-- Assumes nothing.
use Rattle.std.specs.Prelude.{List, [], ◌∷◌, ℕ}
use Rattle.sheet.specs.Meaning.Decoded.{Automaton, Decoded, encode}

-- ---- monitors of one line each way: a letter is input + 2 × output, and a row has the next state after each of the four

-- never on twice running
abbrev pub never_twice : Automaton
never_twice =
    record {
      role = 0;
      weight = 0;
      start = 0;
      accept = 1 ∷ 1 ∷ 0 ∷ [];
      rows = (0 ∷ 0 ∷ 1 ∷ 1 ∷ []) ∷ (0 ∷ 0 ∷ 2 ∷ 2 ∷ []) ∷ (2 ∷ 2 ∷ 2 ∷ 2 ∷ []) ∷ [];
    }

-- input on, so output on
abbrev pub on_for_on : Automaton
on_for_on =
    record {
      role = 0;
      weight = 0;
      start = 0;
      accept = 1 ∷ 0 ∷ [];
      rows = (0 ∷ 1 ∷ 0 ∷ 0 ∷ []) ∷ (1 ∷ 1 ∷ 1 ∷ 1 ∷ []) ∷ [];
    }

-- a state that does not accept at the start, and all moves to one that does
abbrev pub bad_start : Automaton
bad_start =
    record {
      role = 0;
      weight = 0;
      start = 0;
      accept = 0 ∷ 1 ∷ [];
      rows = (1 ∷ 1 ∷ 1 ∷ 1 ∷ []) ∷ (1 ∷ 1 ∷ 1 ∷ 1 ∷ []) ∷ [];
    }

-- input without output, so on next; output without input, so off next
abbrev pub settles : Automaton
settles =
    record {
      role = 0;
      weight = 0;
      start = 0;
      accept = 1 ∷ 1 ∷ 1 ∷ 0 ∷ [];
      rows = (0 ∷ 1 ∷ 2 ∷ 0 ∷ []) ∷ (3 ∷ 3 ∷ 0 ∷ 0 ∷ []) ∷ (0 ∷ 0 ∷ 3 ∷ 3 ∷ []) ∷ (3 ∷ 3 ∷ 3 ∷ 3 ∷ []) ∷ [];
    }

-- input on breaks at once, and every second step does
abbrev pub soon_over : Automaton
soon_over =
    record {
      role = 0;
      weight = 0;
      start = 0;
      accept = 1 ∷ 1 ∷ 0 ∷ [];
      rows = (1 ∷ 2 ∷ 1 ∷ 2 ∷ []) ∷ (2 ∷ 2 ∷ 2 ∷ 2 ∷ []) ∷ (2 ∷ 2 ∷ 2 ∷ 2 ∷ []) ∷ [];
    }

-- this weight for each letter that has a 1 in the list
abbrev pub wish : ℕ → List ℕ → Automaton
wish weight letters =
    record { role = 1; weight = weight; start = 0; accept = 0 ∷ 1 ∷ []; rows = letters ∷ letters ∷ [] }

-- ---- controllers

-- with one output, on preferred
abbrev pub one_output : ℕ → ℕ → List Automaton → Decoded
one_output inputs horizon monitors =
    record { mode = 0; site = inputs; outputs = 1; horizon = horizon; matching = 0; literals = 0 ∷ []; monitors = monitors }

-- never on twice running; 3 for output equal to input
abbrev pub decoded_a : Decoded
decoded_a = one_output 1 1 (never_twice ∷ wish 3 (1 ∷ 0 ∷ 0 ∷ 1 ∷ []) ∷ [])

-- as document 01 prints it
abbrev pub sheet_a : List ℕ
sheet_a =
    0x06 ∷ 0x00 ∷ 0x01 ∷ 0x00 ∷ 0x00 ∷ 0x01 ∷ 0x01 ∷ 0x01 ∷ 0x00 ∷ 0x00
    ∷ 0x13 ∷ 0x00 ∷ 0x02 ∷ 0x00 ∷ 0x00 ∷ 0x00 ∷ 0x03 ∷ 0x00 ∷ 0x01 ∷ 0x01 ∷ 0x00
    ∷ 0x00 ∷ 0x00 ∷ 0x01 ∷ 0x01 ∷ 0x00 ∷ 0x00 ∷ 0x02 ∷ 0x02 ∷ 0x02 ∷ 0x02 ∷ 0x02 ∷ 0x02
    ∷ 0x0E ∷ 0x00 ∷ 0x02 ∷ 0x00 ∷ 0x01 ∷ 0x03 ∷ 0x02 ∷ 0x00 ∷ 0x00 ∷ 0x01
    ∷ 0x01 ∷ 0x00 ∷ 0x00 ∷ 0x01 ∷ 0x01 ∷ 0x00 ∷ 0x00 ∷ 0x01 ∷ []

-- A plus hard "input on, so output on"
abbrev pub sheet3 : List ℕ
sheet3 = encode (one_output 1 1 (never_twice ∷ wish 3 (1 ∷ 0 ∷ 0 ∷ 1 ∷ []) ∷ on_for_on ∷ []))

-- head alone, one line each way
abbrev pub sheet4 : List ℕ
sheet4 = encode (one_output 1 0 [])

abbrev pub sheet5 : List ℕ
sheet5 = encode (one_output 1 0 (bad_start ∷ []))

-- never on twice; 4 for on at input 0, 3 for on at input 1
abbrev pub sheet6 : ℕ → List ℕ
sheet6 horizon =
    encode (one_output 1 horizon (never_twice ∷ wish 4 (0 ∷ 0 ∷ 1 ∷ 0 ∷ []) ∷ wish 3 (0 ∷ 0 ∷ 0 ∷ 1 ∷ []) ∷ []))

-- head alone, two outputs: line 0 on is preferred, then line 1 off
abbrev pub sheet8 : List ℕ
sheet8 =
    encode
    (record { mode = 0; site = 0; outputs = 2; horizon = 0; matching = 0; literals = 0 ∷ 9 ∷ []; monitors = [] })

-- head alone
abbrev pub sheet9 : ℕ → ℕ → List ℕ
sheet9 inputs horizon = encode (one_output inputs horizon [])

-- three states, met by different letters
abbrev pub letter_sheet : List ℕ
letter_sheet = encode (one_output 1 0 (settles ∷ []))

-- two states, each one step from its end
abbrev pub soon_sheet : List ℕ
soon_sheet = encode (one_output 1 0 (soon_over ∷ []))

-- the same monitor twice, a wish before it
abbrev pub both_sheet : List ℕ
both_sheet = encode (one_output 1 0 (wish 3 (1 ∷ 0 ∷ 0 ∷ 1 ∷ []) ∷ soon_over ∷ soon_over ∷ []))

-- a hard monitor of one state where there is no input line; its weight is to be 0
abbrev pub idle : ℕ → Automaton
idle weight = record { role = 0; weight = weight; start = 0; accept = 1 ∷ []; rows = (0 ∷ 0 ∷ []) ∷ [] }

-- six monitors and these
abbrev pub sheet10 : List Automaton → List ℕ
sheet10 more = encode (one_output 0 0 (idle 0 ∷ idle 0 ∷ idle 0 ∷ idle 0 ∷ idle 0 ∷ idle 0 ∷ more))

-- ---- shields with one output, match 1, H = 0

abbrev pub shield : ℕ → ℕ → List Automaton → Decoded
shield site literal monitors =
    record { mode = 1; site = site; outputs = 1; horizon = 0; matching = 1; literals = literal ∷ []; monitors = monitors }

-- without site lines a letter is the output: never on twice
abbrev pub once_at_most : Automaton
once_at_most =
    record {
      role = 0;
      weight = 0;
      start = 0;
      accept = 1 ∷ 1 ∷ 0 ∷ [];
      rows = (0 ∷ 1 ∷ []) ∷ (0 ∷ 2 ∷ []) ∷ (2 ∷ 2 ∷ []) ∷ [];
    }

abbrev pub sheet7 : List ℕ
sheet7 = encode (shield 0 0 (once_at_most ∷ []))

-- a sound proposal is never left (letter 3)
abbrev pub never_left : Automaton
never_left =
    record { role = 2; weight = 0; start = 0; accept = 1 ∷ 0 ∷ []; rows = (0 ∷ 0 ∷ 0 ∷ 1 ∷ []) ∷ (1 ∷ 1 ∷ 1 ∷ 1 ∷ []) ∷ [] }

-- P7's with this limit
abbrev pub strict_sheet : List ℕ
strict_sheet = encode (shield 0 0 (once_at_most ∷ never_left ∷ []))

-- with one site line a letter is site + 2 × output: never on right after on with the site line on; after a break it begins anew
abbrev pub not_again : Automaton
not_again =
    record {
      role = 0;
      weight = 0;
      start = 0;
      accept = 1 ∷ 1 ∷ 0 ∷ [];
      rows = (0 ∷ 0 ∷ 1 ∷ 1 ∷ []) ∷ (0 ∷ 0 ∷ 1 ∷ 2 ∷ []) ∷ (0 ∷ 0 ∷ 0 ∷ 0 ∷ []) ∷ [];
    }

-- a sound proposal is left (letter 3) at the first step, or just after an unsound one was left (letter 2)
abbrev pub seldom_left : Automaton
seldom_left =
    record {
      role = 2;
      weight = 0;
      start = 1;
      accept = 1 ∷ 1 ∷ 0 ∷ [];
      rows = (0 ∷ 0 ∷ 1 ∷ 2 ∷ []) ∷ (0 ∷ 0 ∷ 1 ∷ 0 ∷ []) ∷ (2 ∷ 2 ∷ 2 ∷ 2 ∷ []) ∷ [];
    }

-- one site line, off preferred
abbrev pub limit_sheet : List ℕ
limit_sheet = encode (shield 1 8 (not_again ∷ seldom_left ∷ []))

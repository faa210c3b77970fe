-- The words of a survey's lines, in ASCII.
use Rattle.std.specs.Prelude.{ℕ, List, [], ◌∷◌}

-- survey
abbrev pub survey_word : List ℕ
survey_word = 115 ∷ 117 ∷ 114 ∷ 118 ∷ 101 ∷ 121 ∷ []

-- settings
abbrev pub settings_word : List ℕ
settings_word = 115 ∷ 101 ∷ 116 ∷ 116 ∷ 105 ∷ 110 ∷ 103 ∷ 115 ∷ []

-- recording
abbrev pub recording_word : List ℕ
recording_word = 114 ∷ 101 ∷ 99 ∷ 111 ∷ 114 ∷ 100 ∷ 105 ∷ 110 ∷ 103 ∷ []

-- port
abbrev pub port_word : List ℕ
port_word = 112 ∷ 111 ∷ 114 ∷ 116 ∷ []

-- packets
abbrev pub packets_word : List ℕ
packets_word = 112 ∷ 97 ∷ 99 ∷ 107 ∷ 101 ∷ 116 ∷ 115 ∷ []

-- in
abbrev pub in_word : List ℕ
in_word = 105 ∷ 110 ∷ []

-- out
abbrev pub out_word : List ℕ
out_word = 111 ∷ 117 ∷ 116 ∷ []

-- dropped
abbrev pub dropped_word : List ℕ
dropped_word = 100 ∷ 114 ∷ 111 ∷ 112 ∷ 112 ∷ 101 ∷ 100 ∷ []

-- reason
abbrev pub reason_word : List ℕ
reason_word = 114 ∷ 101 ∷ 97 ∷ 115 ∷ 111 ∷ 110 ∷ []

-- the stroke of a fraction
abbrev pub stroke : ℕ
stroke = 47

-- Document 01's words, in ASCII.
use Rattle.std.specs.Prelude.{ℕ, List, [], ◌∷◌}

-- type1
abbrev pub type1_word : List ℕ
type1_word = 116 ∷ 121 ∷ 112 ∷ 101 ∷ 49 ∷ []

-- type2
abbrev pub type2_word : List ℕ
type2_word = 116 ∷ 121 ∷ 112 ∷ 101 ∷ 50 ∷ []

-- broadcast
abbrev pub broadcast_word : List ℕ
broadcast_word = 98 ∷ 114 ∷ 111 ∷ 97 ∷ 100 ∷ 99 ∷ 97 ∷ 115 ∷ 116 ∷ []

-- transport
abbrev pub transport_word : List ℕ
transport_word = 116 ∷ 114 ∷ 97 ∷ 110 ∷ 115 ∷ 112 ∷ 111 ∷ 114 ∷ 116 ∷ []

-- single
abbrev pub single_word : List ℕ
single_word = 115 ∷ 105 ∷ 110 ∷ 103 ∷ 108 ∷ 101 ∷ []

-- group
abbrev pub group_word : List ℕ
group_word = 103 ∷ 114 ∷ 111 ∷ 117 ∷ 112 ∷ []

-- plain
abbrev pub plain_word : List ℕ
plain_word = 112 ∷ 108 ∷ 97 ∷ 105 ∷ 110 ∷ []

-- link
abbrev pub link_word : List ℕ
link_word = 108 ∷ 105 ∷ 110 ∷ 107 ∷ []

-- data
abbrev pub data_word : List ℕ
data_word = 100 ∷ 97 ∷ 116 ∷ 97 ∷ []

-- announce
abbrev pub announce_word : List ℕ
announce_word = 97 ∷ 110 ∷ 110 ∷ 111 ∷ 117 ∷ 110 ∷ 99 ∷ 101 ∷ []

-- linkrequest
abbrev pub linkrequest_word : List ℕ
linkrequest_word = 108 ∷ 105 ∷ 110 ∷ 107 ∷ 114 ∷ 101 ∷ 113 ∷ 117 ∷ 101 ∷ 115 ∷ 116 ∷ []

-- proof
abbrev pub proof_word : List ℕ
proof_word = 112 ∷ 114 ∷ 111 ∷ 111 ∷ 102 ∷ []

-- hops
abbrev pub hops_word : List ℕ
hops_word = 104 ∷ 111 ∷ 112 ∷ 115 ∷ []

-- to
abbrev pub to_word : List ℕ
to_word = 116 ∷ 111 ∷ []

-- context
abbrev pub context_word : List ℕ
context_word = 99 ∷ 111 ∷ 110 ∷ 116 ∷ 101 ∷ 120 ∷ 116 ∷ []

-- payload
abbrev pub payload_word : List ℕ
payload_word = 112 ∷ 97 ∷ 121 ∷ 108 ∷ 111 ∷ 97 ∷ 100 ∷ []

-- by
abbrev pub by_word : List ℕ
by_word = 98 ∷ 121 ∷ []

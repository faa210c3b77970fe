-- Document 02, Wish 4, over a relay: "Relays get moved and lose power." A save tells what relay and tally are, a load sets both. How they lie in a file is no
-- matter of these rules: a call brings along how long a file is, and what a file says. crates/saved has the format that there is.
use Rattle.std.specs.Prelude.{ℕ, not, List, [], eqb, ltb}
use Rattle.octets.specs.Choice.{◌then◌otherwise◌}
use Rattle.octets.specs.Listed.{◌gives◌otherwise◌, first_of}
use Rattle.rules.specs.Relay.{Relay}
use Rattle.rules.specs.Refusals.{tables_ok}
use Rattle.rules.specs.declared.Tally.{Tally}

-- what a file says to a load: the number that refuses it, or 0, and then what it holds
pub record Said : Type 0 where
  pub refusal : ℕ
  pub relay : Relay
  pub tally : Tally

pub record Format : Type 0 where
  -- how many bytes a file has that is saved
  pub size : ℕ
  -- what bytes say that are loaded
  pub says : List ℕ → Said

-- "25 room too small ..; saving gives 7, then 25", with so many bytes of room
unfoldable pub save_refusal : Format → ℕ → Relay → ℕ
save_refusal f room r = first_of (not (tables_ok r) gives 7 otherwise ltb room f.size gives 25 otherwise []) 0

-- "24 body breaks refusal 7's rules": whatever a file says, no such relay is loaded. The relay and the tally that were there are not looked at
unfoldable pub load_refusal : Said → ℕ
load_refusal s = eqb s.refusal 0 then (tables_ok s.relay then 0 otherwise 24) otherwise s.refusal

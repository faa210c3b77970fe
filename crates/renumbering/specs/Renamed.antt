-- The bytes of each section whose records store ports, with every stored port replaced by its image.
-- For the contracts of helpers: not part of what a reader must believe.
use Rattle.std.specs.Prelude.{ℕ, Bool, true, List, [], ◌∷◌, map, eqb, ltb, length, get_or, set}
use Rattle.octets.specs.Index.{◌and◌}
use Rattle.octets.specs.Choice.{◌then◌otherwise◌}
use Rattle.octets.specs.Part.{fields}
use Rattle.numbers.specs.Numbers.{port_count, path_count, link_count, return_count}
use Rattle.rules.specs.Relay.{Slot, empty, Path, Return}
use Rattle.rules.specs.declared.Link.{Link}
use Rattle.rules.specs.Renumbering.{rename_path, rename_link, rename_return, rename_slot}
use Rattle.tables.specs.Places.{path_width, link_width, return_width, paths_at, links_at, returns_at}
use Rattle.tables.specs.Records.{exactly, slot_of, slot_bytes, path_of, path_bytes, link_of, link_bytes, return_of, return_bytes}
use Rattle.tables.specs.Layout.{records}

abbrev pub new_paths : List ℕ → List ℕ → List (Slot Path)
new_paths m t = map (rename_slot (rename_path m)) (records (slot_of path_of) paths_at path_width path_count t)

unfoldable pub renamed_paths : List ℕ → List ℕ → List ℕ
renamed_paths m t = fields (slot_bytes path_width path_bytes) path_count empty (new_paths m t)

abbrev pub new_links : List ℕ → List ℕ → List (Slot Link)
new_links m t = map (rename_slot (rename_link m)) (records (slot_of link_of) links_at link_width link_count t)

unfoldable pub renamed_links : List ℕ → List ℕ → List ℕ
renamed_links m t = fields (slot_bytes link_width link_bytes) link_count empty (new_links m t)

abbrev pub new_returns : List ℕ → List ℕ → List (Slot Return)
new_returns m t = map (rename_slot (rename_return m)) (records (slot_of return_of) returns_at return_width return_count t)

unfoldable pub renamed_returns : List ℕ → List ℕ → List ℕ
renamed_returns m t = fields (slot_bytes return_width return_bytes) return_count empty (new_returns m t)

-- ---- in bytes, for any table: m the images, the places where a record has its ports, one after the other
unfoldable pub images_put : List ℕ → List ℕ → List ℕ → List ℕ
images_put m [] b = b
images_put m (p ∷ places) b = images_put m places (set b p (get_or m (get_or b p 0) 0))

unfoldable pub ports_stand : List ℕ → List ℕ → List ℕ → Bool
ports_stand m [] b = true
ports_stand m (p ∷ places) b =
    ltb p (length b) and ltb (get_or b p 0) port_count and ports_stand m places (set b p (get_or m (get_or b p 0) 0))

-- an unused record has none
unfoldable pub with_images : List ℕ → List ℕ → List ℕ → List ℕ
with_images m places b = eqb (get_or b 0 0) 0 then b otherwise images_put m places b

unfoldable pub has_ports : List ℕ → List ℕ → List ℕ → Bool
has_ports m places b = eqb (get_or b 0 0) 0 then true otherwise ports_stand m places b

unfoldable pub with_images_each : ℕ → ℕ → ℕ → List ℕ → List ℕ → List ℕ → List ℕ
with_images_each at width n places m t =
    fields (exactly width) n [] (map (with_images m places) (records (λ b. b) at width n t))

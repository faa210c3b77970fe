-- No table of a relay has two records of one key that are live at a clock, nor a path that is live then two equal blobs.
use Prim.Native.Nat.{ℕ, ◌≤◌}
use mathlib.Core.Bool.{true}
use mathlib.Core.List.{List}
use mathlib.Core.Path.{refl}
use Rattle.numbers.specs.Numbers.{blob_limit, live}
use Rattle.rules.specs.Relay.{Path, Return, Remembered, Relay}
use Rattle.rules.specs.Renumbering.{rename_path, rename_link, rename_return}
use Rattle.rules.specs.Blobs.{held}
use Rattle.rules.specs.Writes.{note_path}
use Rattle.rules.specs.Calls.{renumbers}
use Rattle.rules.specs.declared.Link.{Link}
use Rattle.notes.specs.declared.Note.{Note}
use Rattle.rules.proofs.Held.{Property, Holds, TableKeeps}
use Rattle.rules.proofs.Slots.{Single, Every, every_renamed, single_renamed, single_later, every_later}
use Rattle.rules.proofs.Noted.{noted_every, noted_single}
use Rattle.rules.proofs.BlobLaws.{Distinct, Placed}

-- what each part says at a clock
abbrev pub once_at : ℕ → Property
once_at clock =
    record {
      own = λ own. Unit {0};
      clock = λ last. Unit {0};
      rate = λ rate. Unit {0};
      ports = λ ports. Unit {0};
      -- two equal local addresses stand in one place
      locals = Single (λ (address : List ℕ). true) (λ (address : List ℕ). address);
      -- two live records of one key stand in one place; no two blobs of a live path are equal; and every path, live or not, has all its
      -- blob places
      paths = λ paths.
          Single (λ (p : Path). live clock p.expiry) (λ (p : Path). p.destination) paths
          × Every (λ (p : Path). live clock p.expiry) (λ (p : Path). Distinct (held p.blobs)) paths
          × Every (λ (p : Path). true) (λ (p : Path). Placed blob_limit p.blobs) paths;
      links = Single (λ (l : Link). live clock l.expiry) (λ (l : Link). l.id);
      returns = λ ring. Single (λ (t : Return). live clock t.expiry) (λ (t : Return). t.key) ring.slots;
      hashes = λ ring. Single (λ (m : Remembered). live clock m.expiry) (λ (m : Remembered). m.hash) ring.slots;
    }

abbrev pub UniqueAt : ℕ → Relay → Type 0
UniqueAt clock = Holds (once_at clock)

-- a record that is live later is live now
pub later : (r : Relay) {now clock : ℕ} → now ≤ clock → UniqueAt now r → UniqueAt clock r
later r l u =
    record {
      own = tt;
      clock = tt;
      rate = tt;
      ports = tt;
      locals = u.locals;
      paths = (
        single_later (λ p. p.expiry) l r.paths (λ p. p.destination) u.paths.0,
        every_later (λ p. p.expiry) l r.paths (λ p. Distinct (held p.blobs)) u.paths.1,
        u.paths.2,
      );
      links = single_later (λ p. p.expiry) l r.links (λ p. p.id) u.links;
      returns = single_later (λ p. p.expiry) l r.returns.slots (λ p. p.key) u.returns;
      hashes = single_later (λ p. p.expiry) l r.hashes.slots (λ p. p.hash) u.hashes;
    }

-- a note leaves key, expiry and blobs
pub note_keeps : (clock : ℕ) (r : Relay) → UniqueAt clock r → (note : Note) (destination : List ℕ) (now : ℕ)
    → (once_at clock).paths (note_path note destination now r).paths
note_keeps clock r u note destination now = (
  noted_single note destination now r _ (λ _. refl) _ (λ _. refl) u.paths.0,
  noted_every note destination now r _ (λ _. refl) _ (λ _ d. d) u.paths.1,
  noted_every note destination now r _ (λ _. refl) _ (λ _ d. d) u.paths.2,
)

pub renumbering_keeps : (clock : ℕ) (r : Relay) → UniqueAt clock r → (m : List ℕ) → TableKeeps (once_at clock) r (renumbers m)
unfolding rename_path rename_link rename_return
renumbering_keeps clock r u m = (
  tt,
  (
    single_renamed _ _ (rename_path m) (λ _. refl) (λ _. refl) r.paths u.paths.0,
    every_renamed _ _ (rename_path m) (λ _. refl) (λ _ d. d) r.paths u.paths.1,
    every_renamed _ _ (rename_path m) (λ _. refl) (λ _ d. d) r.paths u.paths.2,
  ),
  single_renamed _ _ (rename_link m) (λ _. refl) (λ _. refl) r.links u.links,
  single_renamed _ _ (rename_return m) (λ _. refl) (λ _. refl) r.returns.slots u.returns,
)

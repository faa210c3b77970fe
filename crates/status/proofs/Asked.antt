-- What each question to the tables is told, by the record that it is about.
use Rattle.std.specs.Prelude.{Some, None, Ok, Err}
use Rattle.numbers.specs.declared.refusal.Refusal.TheVariants.{Tables}
use Prim.Native.Nat.{ℕ, zero, suc, ◌+◌, ◌*◌, ◌≤◌, ◌<◌}
use native.Mathlib.Omega.{arith}
use mathlib.Core.Bool.{Bool, true, false, cond}
use mathlib.Core.List.{List}
use mathlib.Core.Path.{◌≡◌, refl, sym, ap, ap₂, ◌∙◌}
use lib.Dec.{eqb, lit≤}
use lib.ListN.{length, get_or, get_or-eq_default}
use borrow.Author.Tests.{le-leb, lt-leb}
use Rattle.std.specs.List.{count_by, range_with_len}
use Rattle.std.proofs.lemmas.List.Sums.{sum_by-cons}
use Rattle.octets.specs.Bytes.{Bytes}
use Rattle.octets.specs.Index.{◌and◌}
use Rattle.octets.specs.Choice.{◌then◌otherwise◌}
use Rattle.octets.specs.Listed.{first_of}
use Rattle.octets.specs.Part.{part}
use Rattle.octets.specs.BigEndian.{number}
use Rattle.octets.proofs.Bytes.{part_bytes}
use Rattle.octets.proofs.Index.{all_at}
use Rattle.octets.proofs.Part.{part_length}
use Rattle.numbers.specs.Numbers.{port_count, local_count, path_count, link_count, return_count, hash_count, live}
use Rattle.rules.specs.Relay.{Slot, empty, holds}
use Rattle.rules.specs.View.{path_place, view_at}
use Rattle.rules.specs.Questions.{Question, port_settings, rate_settings, local_at, path_at, link_at, live_path, live_returns, live_hashes, the_last_clock, Told, an_address, a_path, a_link, told_of, count_below, count_of, row_seven, question_rule, question_refusal, tell}
use Rattle.rules.proofs.Counting.{count_cong, count_le}
use Rattle.tables.specs.Places.{time_width, rate_at, ports_at, port_width, locals_at, local_width, paths_at, path_width, links_at, link_width, returns_at, return_width, hashes_at, hash_width, table_size, address_width}
use Rattle.codes.specs.Form.{code}
use Rattle.tables.specs.Forms.{rate_settings_form, link_form}
use Rattle.tables.specs.Fields.{return_expiry_at, hash_expiry_at}
use Rattle.tables.specs.Records.{slot_of, local_of, path_of, link_of, return_of, hash_of, port_bytes_ok, path_bytes_ok, link_bytes_ok}
use Rattle.tables.specs.Layout.{rate_settings_in, record_at, records_ok, relay_of, well_formed}
use Rattle.tables.specs.Asked.{tell_on, told_path_width, told_number, told_bytes, told_count}
use Rattle.tables.proofs.Lent.{record_end}
use Rattle.tables.proofs.Seen.{port_seen_lem, local_seen, locals_length, path_seen, paths_length, link_seen, links_length, return_seen, hash_seen}
use Rattle.tables.proofs.Whole.{formed, ok_relay}
use Rattle.lookup.specs.Search.{is_used, is_live}
use Rattle.status.specs.Put.{TellsSome, TellsBytes, TellsCount, record_told, live_records}
use Rattle.status.proofs.Told.{port_bytes_lem, rate_bytes_lem, local_bytes_lem, path_bytes_lem, link_bytes_lem, slot_told}

-- ---- tables that row 7 names
pub refused_7 : (t : List ℕ) (q : Question) → well_formed t ≡ false → TellsSome (tell_on t q) (Err Tables)
unfolding tell_on told_number told_bytes ◌then◌otherwise◌
refused_7 t q e old = rw e (refl, refl)

pub bytes_refused_7 : (t : List ℕ) (q : Question) → well_formed t ≡ false → TellsBytes (tell_on t q) (Err Tables)
unfolding tell_on told_number told_bytes ◌then◌otherwise◌
bytes_refused_7 t q e old = rw e (refl, refl)

pub count_refused_7 : (t : List ℕ) (q : Question) → well_formed t ≡ false → TellsCount (tell_on t q) (Err Tables)
unfolding tell_on told_number told_count ◌then◌otherwise◌
count_refused_7 t q e old = rw e (refl, refl)

-- ---- how many records of a section are live: as the code counts, and as the rules do
count_front : (p : ℕ → Bool) (n : ℕ) → count_below p (suc n) ≡ (p 0 then 1 otherwise 0) + count_below (λ k. p (suc k)) n
unfolding count_below
count_front p zero = omega arith
count_front p (suc n) = rw (count_front p n) (omega arith)

one_or_none : (b : Bool) → ◌≡◌ {A = ℕ} (cond b 1 0) (b then 1 otherwise 0)
unfolding ◌then◌otherwise◌
one_or_none true = refl
one_or_none false = refl

counted_from : (p : ℕ → Bool) (a n : ℕ) → count_by p (range_with_len a n) ≡ count_below (λ k. p (a + k)) n
unfolding count_below
counted_from p a zero = refl
counted_from p a (suc n) =
    sum_by-cons (λ x. cond (p x) 1 0) a (range_with_len (a + 1) n)
    ∙ ap₂ (λ (x y : ℕ). x + y) (one_or_none (p a) ∙ ap (λ (k : ℕ). p k then 1 otherwise 0) {x = a} {y = a + 0} (omega arith))
    (counted_from p (a + 1) n ∙ count_cong (λ k. p (a + 1 + k)) (λ k. p (a + suc k)) n (λ i l. ap p (omega arith)))
    ∙ sym (count_front (λ k. p (a + k)) n)

pub live_counted : (at width n expiry clock : ℕ) (t : List ℕ)
    → count_by (λ i. is_live expiry clock (record_at at width t i)) (range_with_len 0 n) ≡ live_records at width n expiry clock t
unfolding live_records
live_counted at width n expiry clock t =
    let p : ℕ → Bool = λ i. is_live expiry clock (record_at at width t i) in
    counted_from p 0 n ∙ count_cong (λ k. p (0 + k)) p n (λ i l. ap p (omega arith))

pub live_most : (at width n expiry clock : ℕ) (t : List ℕ) → live_records at width n expiry clock t ≤ n
unfolding live_records
live_most at width n expiry clock t = count_le (λ i. is_live expiry clock (record_at at width t i)) n

-- the slot of a record's bytes, of which the rule reads the expiry
module _ {A : Type 0} (read : List ℕ → A) (alive : A → Bool) (expiry clock : ℕ)
    (law : (b : List ℕ) → live clock (number (part b expiry time_width)) ≡ alive (read b)) where
  slot_live : (b : List ℕ) → is_live expiry clock b ≡ holds alive (slot_of read b)
  unfolding is_live is_used holds slot_of ◌and◌ ◌then◌otherwise◌
  slot_live b = go (eqb (get_or b 0 0) 0) refl
    where
      go : (m : Bool) → eqb (get_or b 0 0) 0 ≡ m → is_live expiry clock b ≡ holds alive (slot_of read b)
      go true e = rw e
      go false e = rw e (law b)

  counted : (at width n : ℕ) (t : List ℕ) (slots : List (Slot A))
      → ((i : ℕ) → i < n → get_or slots i empty ≡ slot_of read (record_at at width t i)) → live_records at width n expiry clock t ≡ count_of alive n slots
  unfolding live_records count_of
  counted at width n t slots seen =
      count_cong _ _ n (λ i l. slot_live (record_at at width t i) ∙ ap (holds alive) (sym (seen i l)))

-- ---- a record of a section, and what is read of it
module _ (t : List ℕ) (h : well_formed t ≡ true) where
  -- a question that row 7 alone could refuse
  pub asked : (q : Question) → question_refusal q (relay_of t) ≡ row_seven (relay_of t) → tell_on t q ≡ (question_rule q).answer (relay_of t)
  unfolding tell_on tell row_seven first_of ◌then◌otherwise◌
  asked q e = rw (h, e, ok_relay t h)

  record_length : (at width n i : ℕ) → at + width * n ≤ table_size → i < n → length (record_at at width t i) ≡ width
  record_length at width n i fits l =
      part_length t (at + width * i) width (omega (arith, record_end at width n i l, (formed t h).size))

  -- ---- a port
  pub no_port_lem : (port : ℕ) → port_count ≤ port → TellsSome (tell_on t (port_settings port)) (Ok None)
  unfolding question_refusal question_rule told_number told_bytes ◌then◌otherwise◌
  no_port_lem port l old = rw (asked (port_settings port) refl, le-leb port_count port l) (refl, refl)

  pub port_told : Bytes t → (port : ℕ) → port < port_count
      → TellsSome (tell_on t (port_settings port)) (Ok (Some (record_at ports_at port_width t port)))
  unfolding question_refusal question_rule told_number records_ok ◌then◌otherwise◌
  port_told bytes port l old =
      let b = record_at ports_at port_width t port in
      let fine : port_bytes_ok b ≡ true = all_at (λ k. port_bytes_ok (record_at ports_at port_width t k)) port_count port (formed t h).ports l in
      let wide : length b ≡ port_width = record_length ports_at port_width port_count port (lit≤ tt) l in
      rw (asked (port_settings port) refl, lt-leb port_count port l, port_seen_lem t port l)
      (refl, sym (port_bytes_lem b (part_bytes t _ _ bytes) wide fine old))

  pub rate_told_lem : Bytes t → TellsBytes (tell_on t rate_settings) (Ok (part t rate_at (code rate_settings_form).width))
  unfolding question_refusal question_rule told_number relay_of rate_settings_in
  rate_told_lem bytes old =
      let size = (formed t h).size in
      rw (asked rate_settings refl) (refl, sym (rate_bytes_lem t bytes (omega (arith, size)) (formed t h).rate old))

  -- ---- the record at a place
  outside : {A : Type 0} (q : Question) (tells : A → Told) (slots : List (Slot A)) (place : ℕ)
      → tell_on t q ≡ told_of tells (get_or slots place empty) → length slots ≤ place → TellsSome (tell_on t q) (Ok None)
  unfolding told_of told_number told_bytes
  outside q tells slots place e l old = rw (e, get_or-eq_default slots empty {n = place} l) (refl, refl)

  inside : {A : Type 0} (q : Question) (tells : A → Told) (read : List ℕ → A) (slot : Slot A) (b : List ℕ) (n : ℕ)
      → tell_on t q ≡ told_of tells slot → slot ≡ slot_of read b → told_number (tells (read b)) ≡ 0
      → (eqb (get_or b 0 0) 0 ≡ false → (old : List ℕ) → told_bytes (tells (read b)) old ≡ part b 1 n)
      → TellsSome (tell_on t q) (Ok (record_told n b))
  inside q tells read slot b n e seen told law = rw (e, seen) (slot_told tells read b n told law)

  pub no_local : (place : ℕ) → local_count ≤ place → TellsSome (tell_on t (local_at place)) (Ok None)
  unfolding question_refusal question_rule
  no_local place l =
      outside (local_at place) an_address (relay_of t).locals place (asked (local_at place) refl) (rw (locals_length t) l)

  pub local_told : (place : ℕ) → place < local_count
      → TellsSome (tell_on t (local_at place)) (Ok (record_told address_width (record_at locals_at local_width t place)))
  unfolding question_refusal question_rule told_number
  local_told place l =
      inside (local_at place) an_address local_of _ _ address_width (asked (local_at place) refl) (local_seen t place l) refl
      (λ _ old. local_bytes_lem _ old)

  pub no_path_lem : (place : ℕ) → path_count ≤ place → TellsSome (tell_on t (path_at place)) (Ok None)
  unfolding question_refusal question_rule
  no_path_lem place l =
      outside (path_at place) a_path (relay_of t).paths place (asked (path_at place) refl) (rw (paths_length t) l)

  pub no_link : (place : ℕ) → link_count ≤ place → TellsSome (tell_on t (link_at place)) (Ok None)
  unfolding question_refusal question_rule
  no_link place l =
      outside (link_at place) a_link (relay_of t).links place (asked (link_at place) refl) (rw (links_length t) l)

  pub no_live_path : (destination : List ℕ) (clock place : ℕ) → place ≡ path_place clock (relay_of t) destination → path_count ≤ place
      → TellsSome (tell_on t (live_path destination clock)) (Ok None)
  unfolding question_refusal question_rule view_at
  no_live_path destination clock place e l =
      outside (live_path destination clock) a_path (relay_of t).paths place
      (asked (live_path destination clock) refl ∙ ap (λ (k : ℕ). told_of a_path (get_or (relay_of t).paths k empty)) (sym e))
      (rw (paths_length t) l)

  module _ (bytes : Bytes t) where
    path_part : (place : ℕ) → place < path_count
        → (let b = record_at paths_at path_width t place in
        eqb (get_or b 0 0) 0 ≡ false → (old : List ℕ) → told_bytes (a_path (path_of b)) old ≡ part b 1 told_path_width)
    unfolding records_ok
    path_part place l u old =
        let b = record_at paths_at path_width t place in
        let fine : path_bytes_ok b ≡ true = all_at (λ k. path_bytes_ok (record_at paths_at path_width t k)) path_count place (formed t h).paths l in
        path_bytes_lem b (part_bytes t _ _ bytes) u (record_length paths_at path_width path_count place (lit≤ tt) l) fine old

    pub path_told : (place : ℕ) → place < path_count
        → TellsSome (tell_on t (path_at place)) (Ok (record_told told_path_width (record_at paths_at path_width t place)))
    unfolding question_refusal question_rule told_number
    path_told place l =
        inside (path_at place) a_path path_of _ _ told_path_width (asked (path_at place) refl) (path_seen t place l) refl (path_part place l)

    pub live_path_told : (destination : List ℕ) (clock place : ℕ) → place ≡ path_place clock (relay_of t) destination
        → place < path_count
        → TellsSome (tell_on t (live_path destination clock)) (Ok (record_told told_path_width (record_at paths_at path_width t place)))
    unfolding question_refusal question_rule told_number view_at
    live_path_told destination clock place e l =
        inside (live_path destination clock) a_path path_of _ _ told_path_width
        (asked (live_path destination clock) refl ∙ ap (λ (k : ℕ). told_of a_path (get_or (relay_of t).paths k empty)) (sym e))
        (path_seen t place l) refl (path_part place l)

    pub link_told : (place : ℕ) → place < link_count
        → TellsSome (tell_on t (link_at place)) (Ok (record_told (code link_form).width (record_at links_at link_width t place)))
    unfolding question_refusal question_rule told_number records_ok
    link_told place l =
        let b = record_at links_at link_width t place in
        let fine : link_bytes_ok b ≡ true = all_at (λ k. link_bytes_ok (record_at links_at link_width t k)) link_count place (formed t h).links l in
        inside (link_at place) a_link link_of _ _ (code link_form).width (asked (link_at place) refl) (link_seen t place l) refl
        (λ u old.
        link_bytes_lem b (part_bytes t _ _ bytes) u (record_length links_at link_width link_count place (lit≤ tt) l) fine old)

  -- ---- numbers
  pub clock_told : (n : ℕ) → n ≡ (relay_of t).clock → TellsCount (tell_on t the_last_clock) (Ok n)
  unfolding question_refusal question_rule told_number told_count
  clock_told n e old = rw (asked the_last_clock refl) (refl, e)

  pub returns_told : (clock n : ℕ) → n ≡ live_records returns_at return_width return_count return_expiry_at clock t
      → TellsCount (tell_on t (live_returns clock)) (Ok n)
  unfolding question_refusal question_rule told_number told_count return_of
  returns_told clock n e old =
      rw (asked (live_returns clock) refl) (
        refl,
        e
            ∙ counted return_of (λ r. live clock r.expiry) return_expiry_at clock (λ b. refl) returns_at return_width return_count t (relay_of t).returns.slots
            (return_seen t),
      )

  pub hashes_told : (clock n : ℕ) → n ≡ live_records hashes_at hash_width hash_count hash_expiry_at clock t
      → TellsCount (tell_on t (live_hashes clock)) (Ok n)
  unfolding question_refusal question_rule told_number told_count hash_of
  hashes_told clock n e old =
      rw (asked (live_hashes clock) refl) (
        refl,
        e
            ∙ counted hash_of (λ r. live clock r.expiry) hash_expiry_at clock (λ b. refl) hashes_at hash_width hash_count t (relay_of t).hashes.slots
            (hash_seen t),
      )

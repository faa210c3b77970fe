-- After a start and any recordings, the lines are the survey's text; and what a refused recording leaves.
use Rattle.std.proofs.Common.{◌≡◌, ℕ, zero, suc, ◌+◌, ◌-◌, ◌<◌, ◌≤◌, Bool, true, false, eqb, ltb, leb, List, [], ◌∷◌, ◌++◌, length, get_or, sym, refl, ap, ◌∙◌, subst, ap₂, append_assoc, append-nil, add-zero, add-suc, arith, lit≤, ltb-false, ltb-true, le-ltb, lt-ltb, eq-eqb, ne_eqb}
use mathlib.Core.Path.{fun_ext}
use borrow.Author.Tests.{lt-leb}
use Rattle.octets.specs.Index.{list_of}
use Rattle.octets.specs.Choice.{◌then◌otherwise◌}
use Rattle.octets.specs.Part.{joined}
use Rattle.octets.proofs.Choice.{then_true, then_false}
use Rattle.octets.proofs.Joined.{joined_append, joined_one}
use Rattle.octets.proofs.ListOf.{list_of_at, list_of_get_d}
use Rattle.numbers.specs.Numbers.{port_count}
use Rattle.tables.specs.Places.{table_size}
use Rattle.recording.specs.Reader.{file_refusal}
use Rattle.saved.specs.Load.{load_refusal, held_in}
use Rattle.surveying.specs.Counts.{Answered, packets_on, bytes_in_on, bytes_out_by, dropped_on, dropped_by, test_order, test_count}
use Rattle.surveying.specs.Start.{start_of}
use Rattle.surveying.specs.Lines.{survey_line, settings_line, recording_line, port_line, reason_line}
use Rattle.surveying.specs.Survey.{recording_limit, late_number, one_too_many, read_of, total, refused_lines, last_line, port_totals, test_total, survey_text, survey}
use Rattle.surveying.specs.Promise.{bytes_in_at, bytes_out_at, dropped_at, tests_at, counter_count, counted_at, SurveyOn, start_on, read_on, recording_on, recordings_on, ports_from, tests_from, line_count, recording_at, port_at, test_at, line_at, text_on}
use Rattle.surveying.proofs.ReplayLaws.{too_many, is_read, read_refused}
use Rattle.surveying.proofs.StartLaws.{not_begun, begun}
use Rattle.surveying.proofs.ReadingLaws.{read_length, Reading, none_read, reading_all, counts_exact}

-- ---- lines by their places, one after the other
abbrev lines : (ℕ → List ℕ) → ℕ → List ℕ
lines f n = joined f (list_of (λ i. i) n)

lines_none : (f : ℕ → List ℕ) → lines f 0 ≡ []
unfolding joined list_of
lines_none f = refl

lines_more : (f : ℕ → List ℕ) (n : ℕ) → lines f (suc n) ≡ lines f n ++ f n
unfolding list_of
lines_more f n = joined_append f (list_of (λ i. i) n) (n ∷ []) ∙ ap (λ (x : List ℕ). lines f n ++ x) (joined_one f n)

lines_one : (f : ℕ → List ℕ) → lines f 1 ≡ f 0
lines_one f = lines_more f 0 ∙ ap (λ (x : List ℕ). x ++ f 0) (lines_none f)

lines_plus : (f : ℕ → List ℕ) (m n : ℕ) → lines f (m + n) ≡ lines f m ++ lines (λ i. f (m + i)) n
lines_plus f m zero =
    ap (lines f) (add-zero m) ∙ sym (append-nil (lines f m)) ∙ ap (λ (x : List ℕ). lines f m ++ x) (sym (lines_none (λ i. f (m + i))))
lines_plus f m (suc n) =
    ap (lines f) (add-suc m n)
    ∙ lines_more f (m + n)
    ∙ ap (λ (x : List ℕ). x ++ f (m + n)) (lines_plus f m n)
    ∙ append_assoc (lines f m) (lines (λ i. f (m + i)) n) (f (m + n))
    ∙ ap (λ (x : List ℕ). lines f m ++ x) (sym (lines_more (λ i. f (m + i)) n))

lines_cong : (f g : ℕ → List ℕ) (n : ℕ) → ((i : ℕ) → i < n → f i ≡ g i) → lines f n ≡ lines g n
lines_cong f g zero h = lines_none f ∙ sym (lines_none g)
lines_cong f g (suc n) h =
    lines_more f n ∙ ap₂ (λ (x y : List ℕ). x ++ y) (lines_cong f g n (λ i l. h i (omega arith))) (h n (omega arith)) ∙ sym (lines_more g n)

lines_empty : (f : ℕ → List ℕ) (n : ℕ) → ((i : ℕ) → i < n → f i ≡ []) → lines f n ≡ []
lines_empty f zero h = lines_none f
lines_empty f (suc n) h = lines_more f n ∙ ap₂ (λ (x y : List ℕ). x ++ y) (lines_empty f n (λ i l. h i (omega arith))) (h n (omega arith))

lines_front : (f : ℕ → List ℕ) (n : ℕ) → lines f (suc n) ≡ f 0 ++ lines (λ i. f (suc i)) n
lines_front f n =
    let first : suc n ≡ 1 + n = omega arith in
    ap (lines f) first
    ∙ lines_plus f 1 n
    ∙ ap₂ (λ (x y : List ℕ). x ++ y) (lines_one f)
    (lines_cong (λ i. f (1 + i)) (λ i. f (suc i)) n (λ i _. let next : 1 + i ≡ suc i = omega arith in ap f next))

lines_of : (f : ℕ → List ℕ) (g : ℕ → ℕ) (n : ℕ) → joined f (list_of g n) ≡ lines (λ i. f (g i)) n
unfolding joined list_of
lines_of f g zero = refl
lines_of f g (suc n) =
    joined_append f (list_of g n) (g n ∷ [])
    ∙ ap₂ (λ (x y : List ℕ). x ++ y) (lines_of f g n) (joined_one f (g n))
    ∙ sym (lines_more (λ i. f (g i)) n)

-- ---- the lines of refused recordings
unfoldable line_of : ℕ → ℕ → List ℕ
line_of number refusal = eqb refusal 0 then [] otherwise recording_line number refusal

refused_lines_lem : (files : List (List ℕ)) (number : ℕ)
    → refused_lines number files ≡ lines (λ i. line_of (number + i) (file_refusal (get_or files i []))) (length files)
unfolding refused_lines line_of
refused_lines_lem [] number = sym (lines_none _)
refused_lines_lem (f ∷ files) number =
    let here : number + 0 ≡ number = add-zero number in
    ap (λ (x : List ℕ). line_of number (file_refusal f) ++ x) (refused_lines_lem files (number + 1))
    ∙ ap₂ (λ (x y : List ℕ). x ++ y) (ap (λ (n : ℕ). line_of n (file_refusal f)) (sym here))
    (lines_cong (λ i. line_of (number + 1 + i) (file_refusal (get_or files i []))) (λ i. line_of (number + suc i) (file_refusal (get_or files i []))) (length files)
    (λ i _. let next : number + 1 + i ≡ number + suc i = omega arith in ap (λ (n : ℕ). line_of n (file_refusal (get_or files i []))) next))
    ∙ sym (lines_front (λ i. line_of (number + i) (file_refusal (get_or (f ∷ files) i []))) (length files))

-- ---- what the counters count
module _ (port : ℕ) (l : port < port_count) (x : Answered) where
  at_packets : counted_at port x ≡ packets_on port x
  unfolding counted_at
  at_packets = then_true _ _ (lt-ltb port bytes_in_at l)

  at_in : counted_at (bytes_in_at + port) x ≡ bytes_in_on port x
  unfolding counted_at
  at_in =
      let same : bytes_in_at + port - bytes_in_at ≡ port = omega arith in
      then_false _ _ (le-ltb (bytes_in_at + port) bytes_in_at (omega arith))
      ∙ then_true _ _ (lt-ltb (bytes_in_at + port) bytes_out_at (omega arith))
      ∙ ap (λ (p : ℕ). bytes_in_on p x) same

  at_out : counted_at (bytes_out_at + port) x ≡ bytes_out_by port x
  unfolding counted_at
  at_out =
      let same : bytes_out_at + port - bytes_out_at ≡ port = omega arith in
      then_false _ _ (le-ltb (bytes_out_at + port) bytes_in_at (omega arith))
      ∙ then_false _ _ (le-ltb (bytes_out_at + port) bytes_out_at (omega arith))
      ∙ then_true _ _ (lt-ltb (bytes_out_at + port) dropped_at (omega arith))
      ∙ ap (λ (p : ℕ). bytes_out_by p x) same

  at_dropped : counted_at (dropped_at + port) x ≡ dropped_on port x
  unfolding counted_at
  at_dropped =
      let same : dropped_at + port - dropped_at ≡ port = omega arith in
      then_false _ _ (le-ltb (dropped_at + port) bytes_in_at (omega arith))
      ∙ then_false _ _ (le-ltb (dropped_at + port) bytes_out_at (omega arith))
      ∙ then_false _ _ (le-ltb (dropped_at + port) dropped_at (omega arith))
      ∙ then_true _ _ (lt-ltb (dropped_at + port) tests_at (omega arith))
      ∙ ap (λ (p : ℕ). dropped_on p x) same

at_test : (place : ℕ) (x : Answered) → counted_at (tests_at + place) x ≡ dropped_by (get_or test_order place 0) x
unfolding counted_at
at_test place x =
    let same : tests_at + place - tests_at ≡ place = omega arith in
    then_false _ _ (le-ltb (tests_at + place) bytes_in_at (omega arith))
    ∙ then_false _ _ (le-ltb (tests_at + place) bytes_out_at (omega arith))
    ∙ then_false _ _ (le-ltb (tests_at + place) dropped_at (omega arith))
    ∙ then_false _ _ (le-ltb (tests_at + place) tests_at (omega arith))
    ∙ ap (λ (p : ℕ). dropped_by (get_or test_order p 0) x) same

-- ---- the lines of a survey after recordings
module _ (start : List ℕ) (files : List (List ℕ)) (s : SurveyOn) (h : Reading start files s) where
  counter : (k : ℕ) → k < counter_count → (q : Answered → ℕ) → ((x : Answered) → counted_at k x ≡ q x) → get_or s.counts k 0 ≡ total q start files
  counter k l q same =
      ap (λ (c : List ℕ). get_or c k 0) (h.counts ∙ counts_exact start files)
      ∙ list_of_at (λ i. total (counted_at i) start files) counter_count k 0 l
      ∙ ap (λ (p : Answered → ℕ). total p start files) (fun_ext same)

  abbrev place : ℕ → List ℕ
  place = line_at s.counts s.refusals

  -- the recordings
  at_recording : (n : ℕ) → 0 < n → n < ports_from → place n ≡ line_of n (get_or s.refusals n 0)
  unfolding line_at recording_at line_of
  at_recording n some l = then_false _ _ (ne_eqb n 0 (λ e. omega (arith, e))) ∙ then_true _ _ (lt-ltb n ports_from l)

  no_line : (n : ℕ) → line_of n 0 ≡ []
  unfolding line_of ◌then◌otherwise◌
  no_line n = refl

  recordings : lines (λ i. place (1 + i)) recording_limit ≡ refused_lines 1 (read_of files)
  recordings =
      let n : ℕ = length (read_of files) in
      let few : n ≤ recording_limit = read_length files in
      let parts : recording_limit ≡ n + (recording_limit - n) = omega arith in
      let first : lines (λ i. place (1 + i)) n ≡ refused_lines 1 (read_of files) =
      lines_cong (λ i. place (1 + i)) (λ i. line_of (1 + i) (file_refusal (get_or (read_of files) i []))) n
      (λ i l.
      let next : 1 + i ≡ i + 1 = omega arith in
      at_recording (1 + i) (omega arith) (omega arith)
      ∙ ap (line_of (1 + i)) (ap (λ (k : ℕ). get_or s.refusals k 0) next ∙ h.each i l))
      ∙ sym (refused_lines_lem (read_of files) 1) in
      let rest : lines (λ i. place (1 + (n + i))) (recording_limit - n) ≡ [] =
      lines_empty (λ i. place (1 + (n + i))) (recording_limit - n)
      (λ i l.
      at_recording (1 + (n + i)) (omega arith) (omega arith)
      ∙ ap (line_of (1 + (n + i))) (h.none (1 + (n + i)) (omega arith) (omega arith))
      ∙ no_line (1 + (n + i))) in
      ap (lines (λ i. place (1 + i))) parts
      ∙ lines_plus (λ i. place (1 + i)) n (recording_limit - n)
      ∙ ap₂ (λ (x y : List ℕ). x ++ y) first rest
      ∙ append-nil _

  late : ltb recording_limit (length files) ≡ true → line_of late_number (ltb recording_limit (length files) then one_too_many otherwise 0) ≡ last_line files
  unfolding line_of last_line ◌then◌otherwise◌
  late e = rw e

  early : ltb recording_limit (length files) ≡ false → line_of late_number (ltb recording_limit (length files) then one_too_many otherwise 0) ≡ last_line files
  unfolding line_of last_line ◌then◌otherwise◌
  early e = rw e

  last_line_lem : place late_number ≡ last_line files
  last_line_lem = at_recording late_number (lit≤ tt) (lit≤ tt) ∙ ap (line_of late_number) h.last ∙ go (ltb recording_limit (length files)) refl
    where
      go : (b : Bool) → ltb recording_limit (length files) ≡ b
          → line_of late_number (ltb recording_limit (length files) then one_too_many otherwise 0) ≡ last_line files
      go true e = late e
      go false e = early e

  -- the ports
  port_line_lem : (port : ℕ) → port < port_count → port_at s.counts port ≡ port_totals start files port
  unfolding port_at port_totals
  port_line_lem port l =
      let packets = counter port (omega arith) (packets_on port) (at_packets port l) in
      let bytes_in = counter (bytes_in_at + port) (omega arith) (bytes_in_on port) (at_in port l) in
      let bytes-out = counter (bytes_out_at + port) (omega arith) (bytes_out_by port) (at_out port l) in
      let dropped = counter (dropped_at + port) (omega arith) (dropped_on port) (at_dropped port l) in
      λ i. port_line port (packets i) (bytes_in i) (bytes-out i) (dropped i)

  at_port : (port : ℕ) → port < port_count → place (ports_from + port) ≡ port_at s.counts port
  unfolding line_at
  at_port port l =
      let same : ports_from + port - ports_from ≡ port = omega arith in
      then_false _ _ (ne_eqb (ports_from + port) 0 (λ e. omega (arith, e)))
      ∙ then_false _ _ (le-ltb (ports_from + port) ports_from (omega arith))
      ∙ then_true _ _ (lt-ltb (ports_from + port) tests_from (omega arith))
      ∙ ap (port_at s.counts) same

  ports : lines (λ i. place (ports_from + i)) port_count ≡ joined (port_totals start files) (list_of (λ port. port) port_count)
  ports = lines_cong (λ i. place (ports_from + i)) (port_totals start files) port_count (λ i l. at_port i l ∙ port_line_lem i l)

  -- the tests
  test_line : (n : ℕ) → n < test_count → test_at s.counts n ≡ test_total start files (get_or test_order n 0)
  unfolding test_at test_total
  test_line n l =
      ap (reason_line (get_or test_order n 0)) (counter (tests_at + n) (omega arith) (dropped_by (get_or test_order n 0)) (at_test n))

  at_test_line : (n : ℕ) → n < test_count → place (tests_from + n) ≡ test_at s.counts n
  unfolding line_at
  at_test_line n l =
      let same : tests_from + n - tests_from ≡ n = omega arith in
      then_false _ _ (ne_eqb (tests_from + n) 0 (λ e. omega (arith, e)))
      ∙ then_false _ _ (le-ltb (tests_from + n) ports_from (omega arith))
      ∙ then_false _ _ (le-ltb (tests_from + n) tests_from (omega arith))
      ∙ then_true _ _ (lt-ltb (tests_from + n) line_count (omega arith))
      ∙ ap (test_at s.counts) same

  tests : lines (λ i. place (tests_from + i)) test_count ≡ joined (test_total start files) test_order
  tests =
      lines_cong (λ i. place (tests_from + i)) (λ i. test_total start files (get_or test_order i 0)) test_count (λ i l. at_test_line i l ∙ test_line i l)
      ∙ sym (lines_of (test_total start files) (λ i. get_or test_order i 0) test_count)
      ∙ ap (joined (test_total start files)) (list_of_get_d 0 test_order test_count refl)

  heading_line : place 0 ≡ survey_line
  unfolding line_at ◌then◌otherwise◌
  heading_line = refl

  -- all of them: the heading, the recordings that are read, the late one, ports and tests
  pub printed : text_on s ≡ survey_text start files
  unfolding text_on survey_text
  printed =
      let totals : ℕ = port_count + test_count in
      lines_plus place 1 (recording_limit + (1 + totals))
      ∙ ap₂ (λ (x y : List ℕ). x ++ y) (lines_one place ∙ heading_line)
      (lines_plus (λ i. place (1 + i)) recording_limit (1 + totals)
      ∙ ap₂ (λ (x y : List ℕ). x ++ y) recordings
      (lines_plus (λ i. place (1 + (recording_limit + i))) 1 totals
      ∙ ap₂ (λ (x y : List ℕ). x ++ y) (lines_one (λ i. place (1 + (recording_limit + i))) ∙ last_line_lem)
      (lines_cong (λ i. place (1 + (recording_limit + (1 + i)))) (λ i. place (ports_from + i)) totals
      (λ i _. let at : 1 + (recording_limit + (1 + i)) ≡ ports_from + i = omega arith in ap place at)
      ∙ lines_plus (λ i. place (ports_from + i)) port_count test_count
      ∙ ap₂ (λ (x y : List ℕ). x ++ y) ports
      (lines_cong (λ i. place (ports_from + (port_count + i))) (λ i. place (tests_from + i)) test_count
      (λ i _. let at : ports_from + (port_count + i) ≡ tests_from + i = omega arith in ap place at)
      ∙ tests))))

-- ---- a survey by a settings file that isn't refused, of any recordings
module _ (settings start work counts refusals : List ℕ) (files : List (List ℕ)) where
  abbrev first : SurveyOn
  first = start_on settings start work counts refusals

  pub survey_printed : load_refusal settings table_size ≡ 0 → text_on (recordings_on files first) ≡ survey settings files
  unfolding survey
  survey_printed none =
      let from : List ℕ = start_of (held_in settings).0 in
      let begins : Reading from [] first =
      subst (Reading from []) (sym (begun settings start work counts refusals none)) (none_read from _) in
      printed from files (recordings_on files first) (reading_all from files [] first begins)
      ∙ sym (then_true _ _ (eq-eqb (load_refusal settings table_size) 0 none))

  -- one that is refused: its line alone, and nothing is changed
  pub survey_refused : (load_refusal settings table_size ≡ 0 → ⊥) → survey settings files ≡ settings_line first.refusal
  unfolding survey
  survey_refused some =
      then_false _ _ (ne_eqb (load_refusal settings table_size) 0 some)
      ∙ ap (λ (s : SurveyOn). settings_line s.refusal) (sym (not_begun settings start work counts refusals some))

-- ---- refusals, exact: 29 where sixteen were read, else those of the file. A refused recording changes only the refusals
module _ (f start work counts refusals : List ℕ) where
  abbrev after : SurveyOn
  after = recording_on f start work counts refusals

  pub recording_refusal : after.refusal ≡ (leb recording_limit (get_or refusals 0 0) then one_too_many otherwise file_refusal f)
  unfolding recording_on read_on
  recording_refusal = go (leb recording_limit (get_or refusals 0 0)) refl
    where
      go : (b : Bool) → leb recording_limit (get_or refusals 0 0) ≡ b
          → after.refusal ≡ (leb recording_limit (get_or refusals 0 0) then one_too_many otherwise file_refusal f)
      go true e = ap (λ (s : SurveyOn). s.refusal) (then_true _ _ e) ∙ sym (then_true _ _ e)
      go false e = ap (λ (s : SurveyOn). s.refusal) (then_false _ _ e) ∙ sym (then_false _ _ e)

  -- whichever it is, a refusal leaves all but the refusals
  pub refused_leaves : (after.refusal ≡ 0 → ⊥) → (after.start ≡ start) × (after.work ≡ work) × (after.counts ≡ counts)
  refused_leaves some = go (ltb (get_or refusals 0 0) recording_limit) refl
    where
      leaves : (s : SurveyOn) → after ≡ s → (s.start ≡ start) × (s.work ≡ work) × (s.counts ≡ counts)
          → (after.start ≡ start) × (after.work ≡ work) × (after.counts ≡ counts)
      leaves s is same = rw is same

      go : (b : Bool) → ltb (get_or refusals 0 0) recording_limit ≡ b → (after.start ≡ start) × (after.work ≡ work) × (after.counts ≡ counts)
      go true e =
          let l : get_or refusals 0 0 < recording_limit = ltb-true (get_or refusals 0 0) recording_limit e in
          let refused : file_refusal f ≡ 0 → ⊥ = λ q. some (recording_refusal ∙ then_false _ _ (lt-leb recording_limit (get_or refusals 0 0) l) ∙ q) in
          leaves _ (is_read f start work counts refusals l ∙ read_refused f start work counts refusals refused) (refl, refl, refl)
      go false e = leaves _ (too_many f start work counts refusals (ltb-false (get_or refusals 0 0) recording_limit e)) (refl, refl, refl)

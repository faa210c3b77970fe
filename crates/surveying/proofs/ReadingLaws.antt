-- What a survey holds after any recordings: the counters are the answers' sums, and each recording's refusal has its place.
use Rattle.std.proofs.Common.{◌≡◌, ℕ, ◌+◌, ◌^◌, ◌<◌, ◌≤◌, Bool, true, false, ltb, List, [], ◌∷◌, ◌++◌, length, get_or, set, replicate, sym, refl, ap, ◌∙◌, subst, ap₂, append_assoc, append-nil, zero-add, arith, lit≤, length-append, length-set, length-take, take_all, get_or-set_other, get_or-set_same, ltb-false, ltb-true, le-ltb, lt-ltb}
use lib.ListN.{length-replicate, get_or-replicate, get_or-append}
use lib.Seq.{take-append-le, get_or_at}
use Rattle.octets.specs.Index.{list_of}
use Rattle.octets.specs.Choice.{◌then◌otherwise◌}
use Rattle.octets.proofs.Choice.{then_true, then_false}
use Rattle.octets.proofs.ListOf.{list_of_cong}
use Rattle.recording.specs.Reader.{file_refusal}
use Rattle.surveying.specs.Counts.{Answered, sum_over}
use Rattle.surveying.specs.Survey.{recording_limit, late_number, one_too_many, read_of, answers_from, total}
use Rattle.surveying.specs.Promise.{counter_count, counted_at, add_all, refusal_count, noted, SurveyOn, read_on, recording_on, recordings_on}
use Rattle.surveying.proofs.CountLaws.{add_append, exact}
use Rattle.surveying.proofs.ReplayLaws.{too_many, is_read}
use Rattle.surveying.proofs.BoundLaws.{files_small}

-- ---- all answers of recordings, one after the other
unfoldable pub answers_of : List ℕ → List (List ℕ) → List Answered
answers_of start [] = []
answers_of start (f ∷ files) = answers_from start f ++ answers_of start files

answers_last : (start : List ℕ) (files : List (List ℕ)) (f : List ℕ) → answers_of start (files ++ (f ∷ [])) ≡ answers_of start files ++ answers_from start f
unfolding answers_of
answers_last start [] f = append-nil (answers_from start f)
answers_last start (g ∷ files) f =
    ap (λ (xs : List Answered). answers_from start g ++ xs) (answers_last start files f)
    ∙ sym (append_assoc (answers_from start g) (answers_of start files) (answers_from start f))

sum_append : (q : Answered → ℕ) (xs ys : List Answered) → sum_over q (xs ++ ys) ≡ sum_over q xs + sum_over q ys
unfolding sum_over
sum_append q [] ys = omega arith
sum_append q (x ∷ xs) ys = omega (arith, sum_append q xs ys)

sum_answers : (q : Answered → ℕ) (start : List ℕ) (files : List (List ℕ))
    → sum_over q (answers_of start files) ≡ sum_over (λ (f : List ℕ). sum_over q (answers_from start f)) files
unfolding answers_of sum_over
sum_answers q start [] = refl
sum_answers q start (f ∷ files) =
    sum_append q (answers_from start f) (answers_of start files) ∙ ap (λ (n : ℕ). sum_over q (answers_from start f) + n) (sum_answers q start files)

-- ---- what is read
pub read_few : (files : List (List ℕ)) → length files ≤ recording_limit → read_of files ≡ files
unfolding read_of
read_few files l = take_all recording_limit files l

read_many : (files : List (List ℕ)) (f : List ℕ) → recording_limit ≤ length files → read_of (files ++ (f ∷ [])) ≡ read_of files
unfolding read_of
read_many files f l = take-append-le recording_limit files (f ∷ []) l

pub read_length : (files : List (List ℕ)) → length (read_of files) ≤ recording_limit
unfolding read_of
read_length files = simp length-take (omega arith)

read_full : (files : List (List ℕ)) → recording_limit ≤ length files → length (read_of files) ≡ recording_limit
unfolding read_of
read_full files l = simp length-take (omega arith)

-- ---- a survey after some recordings, from a start
pub record Reading (start : List ℕ) (files : List (List ℕ)) (s : SurveyOn) : Type 0 where
  pub begins : s.start ≡ start
  pub counts : s.counts ≡ add_all (replicate counter_count 0) (answers_of start (read_of files))
  pub long : length s.refusals ≡ refusal_count
  pub read : get_or s.refusals 0 0 ≡ length (read_of files)
  pub each : (i : ℕ) → i < length (read_of files) → get_or s.refusals (i + 1) 0 ≡ file_refusal (get_or (read_of files) i [])
  pub none : (i : ℕ) → length (read_of files) < i → i < late_number → get_or s.refusals i 0 ≡ 0
  pub last : get_or s.refusals late_number 0 ≡ (ltb recording_limit (length files) then one_too_many otherwise 0)

-- at the start none was read
pub none_read : (start work : List ℕ) → Reading start []
    (record { refusal = 0; start = start; work = work; counts = replicate counter_count 0; refusals = replicate refusal_count 0 })
unfolding read_of answers_of add_all ◌then◌otherwise◌
none_read start work =
    record {
      begins = refl;
      counts = refl;
      long = refl;
      read = refl;
      each = λ i l. absurd (omega (arith, l));
      none = λ i _ l. get_or-replicate refusal_count i 0 0 (omega (arith, l));
      last = refl;
    }

-- ---- one recording more
-- the refusals with one more noted, place by place
module _ (r : List ℕ) (n k : ℕ) (is : get_or r 0 0 ≡ n) (long : length r ≡ refusal_count) (l : n < recording_limit) where
  noted_is : noted r k ≡ set (set r (n + 1) k) 0 (n + 1)
  unfolding noted
  noted_is = ap (λ (m : ℕ). set (set r (m + 1) k) 0 (m + 1)) is

  noted_long : length (noted r k) ≡ refusal_count
  noted_long = ap length noted_is ∙ length-set (set r (n + 1) k) 0 (n + 1) ∙ length-set r (n + 1) k ∙ long

  noted_read : get_or (noted r k) 0 0 ≡ n + 1
  noted_read =
      ap (λ (x : List ℕ). get_or x 0 0) noted_is ∙ get_or-set_same (set r (n + 1) k) 0 (n + 1) 0 (omega (arith, length-set r (n + 1) k, long))

  noted_behind : (i : ℕ) → 0 < i → get_or (noted r k) i 0 ≡ get_or (set r (n + 1) k) i 0
  noted_behind i some =
      ap (λ (x : List ℕ). get_or x i 0) noted_is ∙ get_or-set_other (set r (n + 1) k) 0 i (n + 1) 0 (λ e. omega (arith, e))

  noted_there : get_or (noted r k) (n + 1) 0 ≡ k
  noted_there = noted_behind (n + 1) (omega arith) ∙ get_or-set_same r (n + 1) k 0 (omega (arith, long))

  noted_other : (i : ℕ) → 0 < i → (i ≡ n + 1 → ⊥) → get_or (noted r k) i 0 ≡ get_or r i 0
  noted_other i some other = noted_behind i some ∙ get_or-set_other r (n + 1) i k 0 other

module _ (start : List ℕ) (files : List (List ℕ)) (s : SurveyOn) (f : List ℕ) (h : Reading start files s) where
  abbrev next : SurveyOn
  next = recording_on f s.start s.work s.counts s.refusals

  -- while fewer than sixteen were read
  module _ (l : length files < recording_limit) where
    whole : read_of files ≡ files
    whole = read_few files (omega arith)

    more : read_of (files ++ (f ∷ [])) ≡ files ++ (f ∷ [])
    more = read_few (files ++ (f ∷ [])) (omega (arith, length-append files (f ∷ [])))

    n_read : get_or s.refusals 0 0 ≡ length files
    n_read = h.read ∙ ap length whole

    as_read : next ≡ read_on f s.start s.work s.counts s.refusals
    as_read = is_read f s.start s.work s.counts s.refusals (omega (arith, n_read))

    read_counts : next.counts ≡ add_all (replicate counter_count 0) (answers_of start (read_of (files ++ (f ∷ []))))
    unfolding read_on
    read_counts =
        ap (λ (x : SurveyOn). x.counts) as_read
        ∙ ap₂ (λ (c b : List ℕ). add_all c (answers_from b f))
        (h.counts ∙ ap (λ (fs : List (List ℕ)). add_all (replicate counter_count 0) (answers_of start fs)) whole) h.begins
        ∙ sym (add_append (answers_of start files) (answers_from start f) (replicate counter_count 0))
        ∙ ap (add_all (replicate counter_count 0)) (sym (answers_last start files f) ∙ ap (answers_of start) (sym more))

    read_refusals : next.refusals ≡ noted s.refusals (file_refusal f)
    unfolding read_on
    read_refusals = ap (λ (x : SurveyOn). x.refusals) as_read

    read_start : next.start ≡ start
    unfolding read_on
    read_start = ap (λ (x : SurveyOn). x.start) as_read ∙ h.begins

    grown : length (read_of (files ++ (f ∷ []))) ≡ length files + 1
    grown = ap length more ∙ length-append files (f ∷ [])

    at : (i : ℕ) → get_or next.refusals i 0 ≡ get_or (noted s.refusals (file_refusal f)) i 0
    at i = ap (λ (r : List ℕ). get_or r i 0) read_refusals

    read_each : (i : ℕ) → i < length files + 1 → get_or next.refusals (i + 1) 0 ≡ file_refusal (get_or (files ++ (f ∷ [])) i [])
    read_each i m = go (ltb i (length files)) refl
      where
        go : (b : Bool) → ltb i (length files) ≡ b → get_or next.refusals (i + 1) 0 ≡ file_refusal (get_or (files ++ (f ∷ [])) i [])
        go true e =
            let before : i < length files = ltb-true i (length files) e in
            at (i + 1)
            ∙ noted_other s.refusals (length files) (file_refusal f) n_read h.long l (i + 1) (omega arith) (λ q. omega (arith, q, before))
            ∙ h.each i (omega (arith, before, ap length whole))
            ∙ ap (λ (fs : List (List ℕ)). file_refusal (get_or fs i [])) whole
            ∙ ap file_refusal (sym (get_or-append files (f ∷ []) [] i before))
        go false e =
            let here : i ≡ length files = omega (arith, ltb-false i (length files) e, m) in
            at (i + 1)
            ∙ ap (λ (j : ℕ). get_or (noted s.refusals (file_refusal f)) (j + 1) 0) here
            ∙ noted_there s.refusals (length files) (file_refusal f) n_read h.long l
            ∙ ap file_refusal (sym (get_or_at files f [] [] i (sym here)))

    pub reading_few : Reading start (files ++ (f ∷ [])) next
    reading_few =
        record {
          begins = read_start;
          counts = read_counts;
          long = ap length read_refusals ∙ noted_long s.refusals (length files) (file_refusal f) n_read h.long l;
          read = at 0 ∙ noted_read s.refusals (length files) (file_refusal f) n_read h.long l ∙ sym grown;
          each = λ i m.
              read_each i (omega (arith, m, grown)) ∙ ap (λ (fs : List (List ℕ)). file_refusal (get_or fs i [])) (sym more);
          none = λ i m k.
              at i
              ∙ noted_other s.refusals (length files) (file_refusal f) n_read h.long l i (omega (arith, m)) (λ q. omega (arith, q, m, grown))
              ∙ h.none i (omega (arith, m, grown, ap length whole)) k;
          last =
              at late_number
              ∙ noted_other s.refusals (length files) (file_refusal f) n_read h.long l late_number (lit≤ tt) (λ q. omega (arith, q))
              ∙ h.last
              ∙ then_false _ _ (le-ltb recording_limit (length files) (omega arith))
              ∙ sym (then_false _ _ (le-ltb recording_limit (length (files ++ (f ∷ []))) (omega (arith, length-append files (f ∷ [])))));
        }

  -- and once sixteen were: 29
  module _ (l : recording_limit ≤ length files) where
    is_late : next
        ≡ record { refusal = one_too_many; start = s.start; work = s.work; counts = s.counts; refusals = set s.refusals late_number one_too_many }
    is_late = too_many f s.start s.work s.counts s.refusals (omega (arith, h.read, read_full files l))

    same_read : read_of (files ++ (f ∷ [])) ≡ read_of files
    same_read = read_many files f l

    late_at : (i : ℕ) → (i ≡ late_number → ⊥) → get_or next.refusals i 0 ≡ get_or s.refusals i 0
    late_at i other = ap (λ (x : SurveyOn). get_or x.refusals i 0) is_late ∙ get_or-set_other s.refusals late_number i one_too_many 0 other

    pub reading_many : Reading start (files ++ (f ∷ [])) next
    reading_many =
        record {
          begins = ap (λ (x : SurveyOn). x.start) is_late ∙ h.begins;
          counts =
              ap (λ (x : SurveyOn). x.counts) is_late
              ∙ h.counts
              ∙ ap (λ (fs : List (List ℕ)). add_all (replicate counter_count 0) (answers_of start fs)) (sym same_read);
          long = ap (λ (x : SurveyOn). length x.refusals) is_late ∙ length-set s.refusals late_number one_too_many ∙ h.long;
          read = late_at 0 (λ q. omega (arith, q)) ∙ h.read ∙ ap length (sym same_read);
          each = λ i m.
              late_at (i + 1) (λ q. omega (arith, q, m, ap length same_read, read_length files))
              ∙ h.each i (omega (arith, m, ap length same_read))
              ∙ ap (λ (fs : List (List ℕ)). file_refusal (get_or fs i [])) (sym same_read);
          none = λ i m k. late_at i (λ q. omega (arith, q, k)) ∙ h.none i (omega (arith, m, ap length same_read)) k;
          last =
              ap (λ (x : SurveyOn). get_or x.refusals late_number 0) is_late
              ∙ get_or-set_same s.refusals late_number one_too_many 0 (omega (arith, h.long))
              ∙ sym (then_true _ _ (lt-ltb recording_limit (length (files ++ (f ∷ []))) (omega (arith, length-append files (f ∷ [])))));
        }

  pub reading_more : Reading start (files ++ (f ∷ [])) next
  reading_more = go (ltb (length files) recording_limit) refl
    where
      go : (b : Bool) → ltb (length files) recording_limit ≡ b → Reading start (files ++ (f ∷ [])) next
      go true e = reading_few (ltb-true (length files) recording_limit e)
      go false e = reading_many (ltb-false (length files) recording_limit e)

-- ---- any recordings
pub reading_all : (start : List ℕ) (more files : List (List ℕ)) (s : SurveyOn) → Reading start files s → Reading start (files ++ more) (recordings_on more s)
unfolding recordings_on
reading_all start [] files s h = subst (λ (fs : List (List ℕ)). Reading start fs s) (sym (append-nil files)) h
reading_all start (f ∷ more) files s h =
    subst (λ (fs : List (List ℕ)). Reading start fs (recordings_on more (recording_on f s.start s.work s.counts s.refusals)))
    (append_assoc files (f ∷ []) more)
    (reading_all start more (files ++ (f ∷ [])) _ (reading_more start files s f h))

-- ---- the counters are exact totals
module _ (start : List ℕ) (files : List (List ℕ)) where
  sum_small : (k : ℕ) → sum_over (counted_at k) (answers_of start (read_of files)) < 2 ^ 64
  sum_small k = omega (arith, sum_answers (counted_at k) start (read_of files), files_small k start (read_of files), read_length files)

  pub counts_exact : add_all (replicate counter_count 0) (answers_of start (read_of files)) ≡ list_of (λ k. total (counted_at k) start files) counter_count
  unfolding total
  counts_exact =
      let zeros : List ℕ = replicate counter_count 0 in
      let zero-at : (k : ℕ) → k < counter_count → get_or zeros k 0 ≡ 0 = λ k l. get_or-replicate counter_count k 0 0 l in
      exact (answers_of start (read_of files)) zeros (length-replicate {A = ℕ} counter_count 0)
      (λ k l. omega (arith, zero-at k l, sum_small k))
      ∙ list_of_cong _ _ counter_count (λ k l.
      ap (λ (n : ℕ). n + sum_over (counted_at k) (answers_of start (read_of files))) (zero-at k l)
      ∙ zero-add _
      ∙ sum_answers (counted_at k) start (read_of files))

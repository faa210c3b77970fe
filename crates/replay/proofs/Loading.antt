-- What a recording, a load and a replay print.
use Rattle.std.proofs.Common.{◌≡◌, ℕ, List, length, sym, ap, ap₂, ◌∙◌, eq-eqb, ne_eqb}
use Rattle.octets.proofs.Choice.{then_true, then_false}
use Rattle.recording.specs.Shape.{count_of}
use Rattle.recording.specs.Reader.{file_refusal}
use Rattle.rules.specs.declared.Tally.{Tally}
use Rattle.tables.specs.Places.{table_size}
use Rattle.text.specs.Words.{words_line, refused_words}
use Rattle.saved.specs.Load.{load_refusal, LoadedOn, load_on, Loads}
use Rattle.saved.proofs.LoadLaws.{load_done, load_number}
use Rattle.replaying.specs.Promise.{ReplayOn, replay_on, steps_on}
use Rattle.replaying.proofs.Replay.{steps_replay}
use Rattle.replay.specs.Line.{tables_refused}
use Rattle.replay.specs.Replayed.{loaded, replayed}

module _ (stored file : List ℕ) where
  pub refused_printed : (refusal : ℕ) → refusal ≡ file_refusal file → (refusal ≡ 0 → ⊥) → words_line (refused_words refusal) ≡ replayed stored file
  unfolding replayed
  refused_printed refusal e ne =
      ap (λ (n : ℕ). words_line (refused_words n)) e ∙ sym (then_false _ _ (ne_eqb (file_refusal file) 0 (λ z. ne (e ∙ z))))

  module _ (taken : file_refusal file ≡ 0) where
    taken_printed : loaded stored file ≡ replayed stored file
    unfolding replayed
    taken_printed = sym (then_true _ _ (eq-eqb (file_refusal file) 0 taken))

    module _ (t : List ℕ) (tally : Tally) (wide : length t ≡ table_size) where
      same_refusal : (refusal : ℕ) → refusal ≡ (load_on stored t tally).refusal → refusal ≡ load_refusal stored table_size
      same_refusal refusal e = e ∙ load_number stored t tally ∙ ap (load_refusal stored) wide

      pub not_loaded_printed : (refusal : ℕ) → refusal ≡ (load_on stored t tally).refusal → (refusal ≡ 0 → ⊥)
          → tables_refused refusal ≡ replayed stored file
      unfolding loaded
      not_loaded_printed refusal e ne =
          let same = same_refusal refusal e in
          ap tables_refused same ∙ sym (then_false _ _ (ne_eqb (load_refusal stored table_size) 0 (λ z. ne (same ∙ z)))) ∙ taken_printed

      pub loaded_printed : (refusal : ℕ) (tables : List ℕ) (after : Tally) → Loads (load_on stored t tally) refusal tables after → refusal ≡ 0
          → (steps_on file (count_of file) tables after).text ≡ replayed stored file
      unfolding loaded
      loaded_printed refusal tables after l none =
          let zero : load_refusal stored table_size ≡ 0 = sym (same_refusal refusal l.0) ∙ none in
          let done = load_done stored t tally (ap (load_refusal stored) wide ∙ zero) in
          ap (λ (r : ReplayOn). r.text) (steps_replay file tables after taken)
          ∙ ap₂ (λ (x : List ℕ) (y : Tally). (replay_on file x y).text)
          (l.1 ∙ ap (λ (x : LoadedOn). x.tables) done)
          (l.2 ∙ ap (λ (x : LoadedOn). x.tally) done)
          ∙ sym (then_true _ _ (eq-eqb (load_refusal stored table_size) 0 zero))
          ∙ taken_printed

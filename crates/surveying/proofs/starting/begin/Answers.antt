use Rattle.std.proofs.Common.{◌≡◌, length, sym, ap, ◌∙◌, rules}
use Rattle.std.proofs.lemmas.Result.{err_from_is_err_and}
use Rattle.octets.proofs.Bytes.{known_bytes}
use Rattle.numbers.proofs.RefusalNumbers.{some_number}
use Rattle.rules.specs.Calls.{new_tally}
use Rattle.tables.specs.Places.{table_size}
use Rattle.tables.specs.Layout.{well_formed}
use Rattle.saved.specs.Load.{load_refusal, LoadedOn}
use Rattle.saved.proofs.LoadLaws.{load_number, load_done, load_refused}
use Rattle.surveying.specs.Promise.{SurveyOn}
use Rattle.surveying.proofs.StartLaws.{not_begun, begun, held_formed, start_made}
use Rattle.surveying.proofs.starting.begin.Goals as goal

pub returns-in_err-load : goal.returns-in_err-load
returns-in_err-load c =
    let a = c.args in
    let f = a.file.now in
    let work = a.work.now in
    let p = err_from_is_err_and c.from_residual.result c.from_residual.ensures.1 in
    let wide : length work ≡ table_size = search rules in
    let load = c.in_err-load.ensures new_tally in
    let number = load.0 ∙ load_number f work new_tally ∙ ap (load_refusal f) wide in
    let some : load_refusal f table_size ≡ 0 → ⊥ = λ q. some_number _ (number ∙ q) in
    let same = load_refused f work new_tally (λ q. some (sym (ap (load_refusal f) wide) ∙ q)) in
    let is = not_begun f a.start.now work a.counts.now a.refusals.now some in
    rw (p.1, p.2) (
      number ∙ sym (ap (λ (s : SurveyOn). s.refusal) is),
      sym (ap (λ (s : SurveyOn). s.start) is),
      load.1 ∙ ap (λ (x : LoadedOn). x.tables) same ∙ sym (ap (λ (s : SurveyOn). s.work) is),
      sym (ap (λ (s : SurveyOn). s.counts) is),
      sym (ap (λ (s : SurveyOn). s.refusals) is),
    )

pub set_as-requires : goal.set_as-requires
set_as-requires c =
    let f = c.args.file.now in
    let work = c.args.work.now in
    let wide : length work ≡ table_size = search rules in
    let load = c.in_ok-load.ensures new_tally in
    let none : load_refusal f table_size ≡ 0 = sym (load.0 ∙ load_number f work new_tally ∙ ap (load_refusal f) wide) in
    let done = load_done f work new_tally (ap (load_refusal f) wide ∙ none) in
    ap well_formed (load.1 ∙ ap (λ (x : LoadedOn). x.tables) done) ∙ held_formed f (known_bytes f c.type_inv.file) none

pub returns : goal.returns
returns c =
    let a = c.args in
    let f = a.file.now in
    let start = a.start.now in
    let work = a.work.now in
    let wide : length work ≡ table_size = search rules in
    let long : length start ≡ table_size = search rules in
    let load = c.in_ok-load.ensures new_tally in
    let none : load_refusal f table_size ≡ 0 = sym (load.0 ∙ load_number f work new_tally ∙ ap (load_refusal f) wide) in
    let done = load_done f work new_tally (ap (load_refusal f) wide ∙ none) in
    let loaded = load.1 ∙ ap (λ (x : LoadedOn). x.tables) done in
    let is = begun f start work a.counts.now a.refusals.now none in
    let b = known_bytes f c.type_inv.file in (
      sym (ap (λ (s : SurveyOn). s.refusal) is),
      start_made f b none start _ _ _ _ long c.own_address.ensures c.fresh.ensures.1 loaded c.set_as.ensures
          ∙ sym (ap (λ (s : SurveyOn). s.start) is),
      loaded ∙ sym (ap (λ (s : SurveyOn). s.work) is),
      sym (ap (λ (s : SurveyOn). s.counts) is),
      sym (ap (λ (s : SurveyOn). s.refusals) is),
    )

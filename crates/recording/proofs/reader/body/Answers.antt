use Rattle.std.proofs.Common.{◌+◌, ◌≤◌, length, sym, ap, subst, ◌∙◌, arith, rules}
use Rattle.octets.specs.Part.{part}
use Rattle.octets.proofs.Part.{part_nil, part_range}
use Rattle.recording.specs.Reader.{Fields, body_of}
use Rattle.recording.proofs.ReadLaws.{fields_within}
use Rattle.recording.proofs.reader.body.Goals as goal

pub overflow_add-result : goal.overflow_add-result
overflow_add-result c =
    let f = c.args.file.now in
    let r = c.in-Some.head in
    let within : r.start + r.length ≤ length f =
    subst (λ (s : Fields). s.start + s.length ≤ length f) (sym c.in-Some.ensures) (fields_within f c.args.i) in
    record { fits = omega arith }

pub slice_bounds-result-end : goal.slice_bounds-result-end
slice_bounds-result-end c =
    let f = c.args.file.now in
    let r = c.in-Some.head in
    let within : r.start + r.length ≤ length f =
    subst (λ (s : Fields). s.start + s.length ≤ length f) (sym c.in-Some.ensures) (fields_within f c.args.i) in
    search rules

pub returns-in-Some : goal.returns-in-Some
unfolding body_of
returns-in-Some c =
    let f = c.args.file.now in
    let r = c.in-Some.head in
    part_range f r.start r.length ∙ ap (λ (s : Fields). part f s.start s.length) c.in-Some.ensures

pub returns-in-None : goal.returns-in-None
unfolding body_of
returns-in-None c =
    let f = c.args.file.now in
    sym (part_nil f 0) ∙ ap (λ (s : Fields). part f s.start s.length) c.in-None.ensures

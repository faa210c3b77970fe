use Prim.Native.Nat.{◌*◌}
use mathlib.Core.Path.{◌≡◌, sym, ap, ◌∙◌}
use lib.ListN.{length}
use Rattle.std.proofs.lemmas.Result.{err_from_is_err_and}
use Rattle.octets.specs.Choice.{◌then◌otherwise◌}
use Rattle.octets.specs.Listed.{first_of}
use Rattle.octets.specs.Part.{patch}
use Rattle.octets.proofs.Bytes.{known_bytes}
use Rattle.numbers.specs.Numbers.{port_count}
use Rattle.rules.specs.Calls.{renumbers, rule_of}
use Rattle.tables.specs.Places.{port_width, ports_at}
use Rattle.tables.proofs.Whole.{formed}
use Rattle.tables.proofs.Called.{size_of, call_bad, call_refused_lem, call_done}
use Rattle.renumbering.proofs.Moves.{links_ready, returns_ready, renumber_writes}
use native.Mathlib.Omega.{arith}
use borrow.Author.Rules.{rules}
use Rattle.renumbering.proofs.renumber.Goals as goal

pub returns-in_err-check_tables : goal.returns-in_err-check_tables
returns-in_err-check_tables c =
    let a = c.args in
    let p = err_from_is_err_and c.from_residual.result c.from_residual.ensures.1 in
    let bad = c.in_err-check_tables.ensures in
    rw (p.1, p.2, bad.0) (call_bad (renumbers a.map) a.tables.now bad.1)

pub returns-then-not-one_to_one : goal.returns-then-not-one_to_one
unfolding rule_of first_of ◌then◌otherwise◌
returns-then-not-one_to_one c =
    let a = c.args in
    let t = a.tables.now in
    let ok = c.in_ok-check_tables.ensures in
    call_refused_lem (renumbers a.map) t ok (known_bytes t c.slice_known-1.given) 8 (λ e. omega arith)
    (rw (sym c.one_to_one.ensures ∙ c.if-not-one_to_one.true))

pub moved_ports-ports-requires : goal.moved_ports-ports-requires
moved_ports-ports-requires c =
    let ok = c.in_ok-check_tables.ensures in
    (ok, size_of c.args.tables.now ok, search rules)

pub rename_paths-requires : goal.rename_paths-requires
rename_paths-requires c =
    let t = c.args.tables.now in
    let ok = c.in_ok-check_tables.ensures in
    ((formed t ok).paths, size_of t ok, search rules)

pub rename_links-requires : goal.rename_links-requires
rename_links-requires c =
    let a = c.args in
    let t = a.tables.now in
    let ok = c.in_ok-check_tables.ensures in
    let size = c.rename_paths.auto.t ∙ size_of t ok in
    (links_ready t a.map (known_bytes t c.slice_known-1.given) ok _ c.rename_paths.ensures, size, search rules)

pub rename_returns-requires : goal.rename_returns-requires
rename_returns-requires c =
    let a = c.args in
    let t = a.tables.now in
    let ok = c.in_ok-check_tables.ensures in
    let size = c.rename_links.auto.t ∙ c.rename_paths.auto.t ∙ size_of t ok in (
      returns_ready t a.map (known_bytes t c.slice_known-1.given) ok _ c.rename_paths.ensures _
          c.rename_links.ensures,
      size,
      search rules,
    )

pub copy_at-requires : goal.copy_at-requires
copy_at-requires c =
    let ok = c.in_ok-check_tables.ensures in
    let long : length c.moved_ports-ports.result ≡ port_width * port_count = search rules in
    let size = c.rename_returns.auto.t ∙ c.rename_links.auto.t ∙ c.rename_paths.auto.t
    ∙ size_of c.args.tables.now ok in
    omega (arith, long, size)

pub returns : goal.returns
unfolding rule_of first_of ◌then◌otherwise◌
returns c =
    let a = c.args in
    let t = a.tables.now in
    let ok = c.in_ok-check_tables.ensures in
    let ports = c.copy_at.ensures
    ∙ ap (patch c.rename_returns.new.t ports_at) c.moved_ports-ports.ensures in
    let wrote = renumber_writes t a.map (known_bytes t c.slice_known-1.given) ok _ c.rename_paths.ensures _
    c.rename_links.ensures
    _ _ c.rename_returns.ensures ports in
    call_done (renumbers a.map) t ok (rw (sym c.one_to_one.ensures ∙ c.if-not-one_to_one.false)) wrote

use Rattle.history.specs.Known.{seen_at}
use Rattle.std.proofs.Common.{ℕ, List, ltb, ◌≡◌, refl, sym, ap, subst, ◌∙◌}
use Rattle.numbers.specs.Numbers.{live}
use Rattle.packet.specs.declared.Parts.{Parts}
use Rattle.rules.specs.Relay.{Port, Path, Return}
use Rattle.rules.specs.declared.Link.{Link}
use Rattle.judging.specs.Seen.{path_of, return_of}
use Rattle.history.specs.Known.{only_if}
use Rattle.opinion_log.specs.Log.{known_in}
use Rattle.opinion_log.proofs.Views.{known_own}
use Rattle.opinion_log.proofs.seeing.seen.Goals as goal

pub returns : goal.returns
unfolding seen_at
returns c =
    let there = ap (λ (x : Parts). x.destination) c.parts_of.ensures in
    let log = c.args.log.now in
    let k = known_in log c.args.n in
    let clock = c.args.arrived.clock in (
      record {
        own = c.address_at.ensures ∙ sym (known_own log c.args.n);
        rate = c.rate_at.ensures.0;
        on = λ port. ap (λ (p : Port). p.on) (c.ports_at.ensures port);
        mode = λ port. ap (λ (p : Port). p.mode) (c.ports_at.ensures port);
        size = λ port. ap (λ (p : Port). p.size) (c.ports_at.ensures port);
        local = c.is_local.ensures ∙ ap k.local there;
        remembered = ap (ltb clock) (c.until.ensures ∙ ap k.until c.hash_of.ensures);
        path = c.live_path.ensures.0 _ ∙ ap (only_if (λ (p : Path). live clock p.expiry)) (subst (λ (d : List ℕ). path_of d c.path_of-path.result ≡ k.path d) there c.path_of-path.ensures.0.is);
        link = c.live_link.ensures ∙ ap (only_if (λ (l : Link). live clock l.expiry)) (c.link_of-link.ensures.0 ∙ ap k.link c.link_key.ensures);
        return = c.live_return.ensures _ ∙ ap (only_if (λ (t : Return). live clock t.expiry)) (subst (λ (d : List ℕ). return_of d c.return_of-back.result ≡ k.return d) there c.return_of-back.ensures.0);
        expired = refl;
        room_for_path = refl;
        room_for_link = refl;
      },
      record { settings = c.rate_at.ensures.1; path = c.live_path.ensures.1 },
    )

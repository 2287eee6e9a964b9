use Rattle.trio_raw.proofs.Words.{◌++◌, ◌∙◌, ◌∷◌, Done, Has, OnList, [], ap, append_assoc, back_calls, subst, sym, with_reads, without_read}
use Rattle.trio_desk.specs.Call.{GiveBack}
use Rattle.trio_raw.proofs.Backing.{calls_more, last_out, stands-last}
use Rattle.trio_raw.proofs.Standing.{stands_alike}
use Rattle.trio_raw.proofs.back.give_all_back.Goals as goal

pub give_back-requires : goal.give_back-requires
give_back-requires g c =
    let turn = c.loop-lease in
    last_out (g.D.Desk.seen turn.desk).out turn.things.has c.last_read.new.self.has.reads c.in-Some.lease c.in-Some.ensures.lease turn.invariant.stands

pub loop-lease-preserved : goal.loop-lease-preserved
loop-lease-preserved g c =
    let turn = c.loop-lease in
    let left = c.last_read.new.self.has.reads in
    let lease = c.in-Some.lease in
    let out = (g.D.Desk.seen turn.desk).out in
    let out' = (g.D.Desk.seen c.give_back.new.self).out in
    let given = turn.invariant.given in
    let seen = c.give_back.ensures.seen in
    record {
      stands =
          subst (OnList out') (sym c.in-Some.ensures.rest)
          (stands_alike out' (without_read out lease.ino) (with_reads turn.things.has left) seen.out
          (stands-last out turn.things.has left lease c.in-Some.ensures.lease turn.invariant.stands));
      given = (
        lease ∷ given.0,
        given.1 ∙ ap (λ l. l ++ given.0) c.in-Some.ensures.lease ∙ append_assoc left (lease ∷ []) given.0,
        calls_more g.D.Desk.called (back_calls given.0) (record { ask = GiveBack lease; told = Done }) c.args.desk.now turn.desk c.give_back.new.self given.2 c.give_back.ensures.called,
      );
      left = c.in-Some.ensures.rest ∙ ap (λ (h : Has). with_reads h left) turn.invariant.left;
      holds = seen.out.holds ∙ turn.invariant.holds;
      lib = seen.lib ∙ turn.invariant.lib;
    }

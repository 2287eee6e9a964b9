use Rattle.trio_raw.proofs.Words.{◌∙◌, Has, HasLeases, Held, Made, Ok, OnList, ap, keeps_lease, refl, subst, sym, with_lease}
use Rattle.trio_desk.specs.Call.{Lent, NotLent}
use Rattle.trio_raw.proofs.Leases.{leases-lease, leases_alike}
use Rattle.trio_raw.proofs.Standing.{stands-lease, stands_alike}
use Rattle.trio_raw.proofs.raw.Raw.grant.Goals as goal

pub returns-in-Ok-clause-call : goal.returns-in-Ok-clause-call
returns-in-Ok-clause-call g c =
    let same = c.reserve_lease.ensures.kept ∙ ap (λ (h : Held). h.has) c.self.view_is in
    let kept = c.add_lease.ensures.added ∙ ap (λ (h : Has). keeps_lease h c.in-Ok.lease) same in
    Made (Lent c.in-Ok.lease) c.in-Ok.ensures.called (ap Ok c.add_lease.ensures.children, kept)

pub returns-in-Ok-clause-stands : goal.returns-in-Ok-clause-stands
returns-in-Ok-clause-stands g c =
    let same = c.reserve_lease.ensures.kept ∙ ap (λ (h : Held). h.has) c.self.view_is in
    let kept = c.add_lease.ensures.added ∙ ap (λ (h : Has). keeps_lease h c.in-Ok.lease) same in
    let seen = g.D.Desk.seen c.args.desk.now in
    let out' = (g.D.Desk.seen c.grant.new.self).out in
    let has = c.args.self.now.has in
    subst (OnList out') (sym kept)
    (stands_alike out' (with_lease seen.out c.in-Ok.lease) (keeps_lease has c.in-Ok.lease) c.in-Ok.ensures.seen.out
    (stands-lease seen.lib c.args.ino seen.sizes seen.out has c.in-Ok.lease c.requires.stands c.in-Ok.ensures.lease))

pub returns-in-Ok-clause-leases : goal.returns-in-Ok-clause-leases
returns-in-Ok-clause-leases g c l =
    let same = c.reserve_lease.ensures.kept ∙ ap (λ (h : Held). h.has) c.self.view_is in
    let kept = c.add_lease.ensures.added ∙ ap (λ (h : Has). keeps_lease h c.in-Ok.lease) same in
    let seen = g.D.Desk.seen c.args.desk.now in
    let out' = (g.D.Desk.seen c.grant.new.self).out in
    let has = c.args.self.now.has in
    subst (HasLeases out') (sym kept)
    (leases_alike out' (with_lease seen.out c.in-Ok.lease) (keeps_lease has c.in-Ok.lease) c.in-Ok.ensures.seen.out
    (leases-lease seen.lib c.args.ino seen.sizes seen.out has c.in-Ok.lease c.in-Ok.ensures.lease l))

pub returns-in-Err-clause-call : goal.returns-in-Err-clause-call
returns-in-Err-clause-call g c =
    Made (NotLent c.in-Err.fault) c.in-Err.ensures.called (refl, c.reserve_lease.ensures.kept ∙ ap (λ (h : Held). h.has) c.self.view_is)

pub returns-in-Err-clause-stands : goal.returns-in-Err-clause-stands
returns-in-Err-clause-stands g c =
    let same = c.reserve_lease.ensures.kept ∙ ap (λ (h : Held). h.has) c.self.view_is in
    let out = (g.D.Desk.seen c.args.desk.now).out in
    let out' = (g.D.Desk.seen c.grant.new.self).out in
    subst (OnList out') (sym same) (stands_alike out' out c.args.self.now.has c.in-Err.ensures.seen.out c.requires.stands)

pub returns-in-Err-clause-leases : goal.returns-in-Err-clause-leases
returns-in-Err-clause-leases g c l =
    let same = c.reserve_lease.ensures.kept ∙ ap (λ (h : Held). h.has) c.self.view_is in
    let out = (g.D.Desk.seen c.args.desk.now).out in
    let out' = (g.D.Desk.seen c.grant.new.self).out in
    subst (HasLeases out') (sym same) (leases_alike out' out c.args.self.now.has c.in-Err.ensures.seen.out l)

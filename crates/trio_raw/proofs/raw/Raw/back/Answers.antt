use Rattle.trio_raw.proofs.Words.{◌∙◌, ◌≡◌, Done, HasLeases, Held, Made, None, OnList, Some, ap, both_ways, has_read, read_on, refl, subst, sym}
use Rattle.trio_desk.specs.Out.{without_read as out_without_read}
use Rattle.trio_raw.specs.Has.{without_read}
use Rattle.trio_raw.proofs.Asking.{back_none, read_none, read_some, read_there}
use Rattle.trio_raw.proofs.Leases.{leases_same}
use Rattle.trio_raw.proofs.Standing.{stands-back, stands_alike}
use Rattle.trio_raw.proofs.raw.Raw.back.Goals as goal

pub returns-in_default-clause-call : goal.returns-in_default-clause-call
returns-in_default-clause-call g c =
    let has = c.args.self.now.has in
    let none : read_on has c.args.ino ≡ None = ap (λ (h : Held). read_on h.has c.args.ino) (sym c.self.view_is) ∙ sym c.take_read.ensures.lease ∙ c.in_default.is in
    let same : c.take_read.new.self.has ≡ has = c.take_read.ensures.rest ∙ ap (λ (h : Held). without_read h.has c.args.ino) c.self.view_is ∙ back_none has c.args.ino none in
    rw none (refl, refl, same)

pub returns-in_default-clause-absent : goal.returns-in_default-clause-absent
returns-in_default-clause-absent g c =
    let has = c.args.self.now.has in
    let none : read_on has c.args.ino ≡ None = ap (λ (h : Held). read_on h.has c.args.ino) (sym c.self.view_is) ∙ sym c.take_read.ensures.lease ∙ c.in_default.is in
    (λ e. read_none has c.args.ino none, λ f. refl)

pub returns-in_default-clause-stands : goal.returns-in_default-clause-stands
returns-in_default-clause-stands g c =
    let has = c.args.self.now.has in
    let none : read_on has c.args.ino ≡ None = ap (λ (h : Held). read_on h.has c.args.ino) (sym c.self.view_is) ∙ sym c.take_read.ensures.lease ∙ c.in_default.is in
    let same : c.take_read.new.self.has ≡ has = c.take_read.ensures.rest ∙ ap (λ (h : Held). without_read h.has c.args.ino) c.self.view_is ∙ back_none has c.args.ino none in
    subst (OnList (g.D.Desk.seen c.args.desk.now).out) (sym same) c.requires.stands

pub returns-in_default-clause-leases : goal.returns-in_default-clause-leases
returns-in_default-clause-leases g c l =
    let has = c.args.self.now.has in
    let none : read_on has c.args.ino ≡ None = ap (λ (h : Held). read_on h.has c.args.ino) (sym c.self.view_is) ∙ sym c.take_read.ensures.lease ∙ c.in_default.is in
    let same : c.take_read.new.self.has ≡ has = c.take_read.ensures.rest ∙ ap (λ (h : Held). without_read h.has c.args.ino) c.self.view_is ∙ back_none has c.args.ino none in
    subst (HasLeases (g.D.Desk.seen c.args.desk.now).out) (sym same) l

pub give_back-requires : goal.give_back-requires
give_back-requires g c =
    let has = c.args.self.now.has in
    let some : read_on has c.args.ino ≡ Some c.in-Some.lease = ap (λ (h : Held). read_on h.has c.args.ino) (sym c.self.view_is) ∙ sym c.take_read.ensures.lease ∙ c.in-Some.is in
    c.requires.stands.reads c.in-Some.lease (read_there has c.args.ino c.in-Some.lease some).0

pub returns-clause-call : goal.returns-clause-call
returns-clause-call g c =
    let has = c.args.self.now.has in
    let some : read_on has c.args.ino ≡ Some c.in-Some.lease = ap (λ (h : Held). read_on h.has c.args.ino) (sym c.self.view_is) ∙ sym c.take_read.ensures.lease ∙ c.in-Some.is in
    let rest : c.take_read.new.self.has ≡ without_read has c.args.ino = c.take_read.ensures.rest ∙ ap (λ (h : Held). without_read h.has c.args.ino) c.self.view_is in
    rw some (Made Done c.give_back.ensures.called (refl, rest))

pub returns-clause-absent : goal.returns-clause-absent
returns-clause-absent g c =
    let has = c.args.self.now.has in
    let some : read_on has c.args.ino ≡ Some c.in-Some.lease = ap (λ (h : Held). read_on h.has c.args.ino) (sym c.self.view_is) ∙ sym c.take_read.ensures.lease ∙ c.in-Some.is in
    (λ e. absurd cc, λ f. absurd (both_ways (has_read has c.args.ino) f (read_some has c.args.ino c.in-Some.lease some)))

pub returns-clause-stands : goal.returns-clause-stands
returns-clause-stands g c =
    let has = c.args.self.now.has in
    let out = (g.D.Desk.seen c.args.desk.now).out in
    let out' = (g.D.Desk.seen c.give_back.new.self).out in
    let some : read_on has c.args.ino ≡ Some c.in-Some.lease = ap (λ (h : Held). read_on h.has c.args.ino) (sym c.self.view_is) ∙ sym c.take_read.ensures.lease ∙ c.in-Some.is in
    let rest : c.take_read.new.self.has ≡ without_read has c.args.ino = c.take_read.ensures.rest ∙ ap (λ (h : Held). without_read h.has c.args.ino) c.self.view_is in
    subst (OnList out') (sym rest)
    (stands_alike out' (out_without_read out c.in-Some.lease.ino) (without_read has c.args.ino) c.give_back.ensures.seen.out
    (subst (λ n. OnList (out_without_read out n) (without_read has c.args.ino)) (sym (read_there has c.args.ino c.in-Some.lease some).1) (stands-back out has c.args.ino c.requires.stands)))

pub returns-clause-leases : goal.returns-clause-leases
returns-clause-leases g c l =
    let has = c.args.self.now.has in
    let out = (g.D.Desk.seen c.args.desk.now).out in
    let out' = (g.D.Desk.seen c.give_back.new.self).out in
    let rest : c.take_read.new.self.has ≡ without_read has c.args.ino = c.take_read.ensures.rest ∙ ap (λ (h : Held). without_read h.has c.args.ino) c.self.view_is in
    subst (HasLeases out') (sym rest) (leases_same out' out has (without_read has c.args.ino) c.give_back.ensures.seen.out.writes c.give_back.ensures.seen.out.holds refl refl l)

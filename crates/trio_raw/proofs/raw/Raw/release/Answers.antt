use Rattle.trio_raw.proofs.Words.{◌∙◌, ◌≡◌, Bundled, Has, HasLeases, Held, Judged, Made, NotJudged, OnList, Release, WasGiven, ap, has_all_of, parcel_named, parcel_of, refl, rest_of, subst, sym, true, with_parcel, without_parcel}
use Rattle.std.proofs.Common.{Err}
use Rattle.trio_raw.proofs.Leases.{leases-rest, leases-returned, leases_alike}
use Rattle.trio_raw.proofs.Standing.{named-given, stands-rest, stands-returned, stands_alike}
use Rattle.trio_raw.proofs.raw.Raw.release.Goals as goal

pub release-requires : goal.release-requires
release-requires g c =
    let all : has_all_of c.args.self.now.has c.args.inos.now c.args.pages.now c.args.inodes.now ≡ true = ap (λ (h : Held). has_all_of h.has c.args.inos.now c.args.pages.now c.args.inodes.now) (sym c.self.view_is) ∙ sym c.has_all_of.ensures ∙ c.if-not-has_all_of.false in
    let parcel : parcel_of c.in-Ok.bundle ≡ parcel_named c.args.self.now.has c.args.inos.now c.args.pages.now c.args.inodes.now = c.in-Ok.ensures.parcel ∙ ap (λ (h : Held). parcel_named h.has c.args.inos.now c.args.pages.now c.args.inodes.now) c.self.view_is in
    let out = (g.D.Desk.seen c.args.desk.now).out in
    subst (WasGiven out) (sym parcel) (named-given out c.args.self.now.has c.args.inos.now c.args.pages.now c.args.inodes.now all c.requires.stands)

pub returns-in-Ok-release-clause-call : goal.returns-in-Ok-release-clause-call
returns-in-Ok-release-clause-call g c =
    let parcel : parcel_of c.in-Ok.bundle ≡ parcel_named c.args.self.now.has c.args.inos.now c.args.pages.now c.args.inodes.now = c.in-Ok.ensures.parcel ∙ ap (λ (h : Held). parcel_named h.has c.args.inos.now c.args.pages.now c.args.inodes.now) c.self.view_is in
    let rest : c.take.new.self.has ≡ rest_of c.args.self.now.has c.args.inos.now c.args.pages.now c.args.inodes.now = c.in-Ok.ensures.rest ∙ ap (λ (h : Held). rest_of h.has c.args.inos.now c.args.pages.now c.args.inodes.now) c.self.view_is in
    let told = Judged c.in-Ok-release.answer in
    Made told (subst (λ p. g.D.Desk.called c.args.desk.now (Release p) told c.release.new.self) parcel c.in-Ok-release.ensures.called) (refl, rest)

pub returns-in-Ok-release-clause-stands : goal.returns-in-Ok-release-clause-stands
returns-in-Ok-release-clause-stands g c =
    let has = c.args.self.now.has in
    let parcel : parcel_of c.in-Ok.bundle ≡ parcel_named has c.args.inos.now c.args.pages.now c.args.inodes.now = c.in-Ok.ensures.parcel ∙ ap (λ (h : Held). parcel_named h.has c.args.inos.now c.args.pages.now c.args.inodes.now) c.self.view_is in
    let rest : c.take.new.self.has ≡ rest_of has c.args.inos.now c.args.pages.now c.args.inodes.now = c.in-Ok.ensures.rest ∙ ap (λ (h : Held). rest_of h.has c.args.inos.now c.args.pages.now c.args.inodes.now) c.self.view_is in
    let left = rest_of has c.args.inos.now c.args.pages.now c.args.inodes.now in
    let out = (g.D.Desk.seen c.args.desk.now).out in
    let out' = (g.D.Desk.seen c.release.new.self).out in
    subst (OnList out') (sym rest)
    (stands_alike out' (without_parcel out (parcel_of c.in-Ok.bundle)) left c.in-Ok-release.ensures.seen.out
    (subst (λ p. OnList (without_parcel out p) left) (sym parcel)
    (stands-rest out has c.args.inos.now c.args.pages.now c.args.inodes.now c.requires.stands)))

pub returns-in-Ok-release-clause-leases : goal.returns-in-Ok-release-clause-leases
returns-in-Ok-release-clause-leases g c l =
    let has = c.args.self.now.has in
    let all : has_all_of has c.args.inos.now c.args.pages.now c.args.inodes.now ≡ true = ap (λ (h : Held). has_all_of h.has c.args.inos.now c.args.pages.now c.args.inodes.now) (sym c.self.view_is) ∙ sym c.has_all_of.ensures ∙ c.if-not-has_all_of.false in
    let parcel : parcel_of c.in-Ok.bundle ≡ parcel_named has c.args.inos.now c.args.pages.now c.args.inodes.now = c.in-Ok.ensures.parcel ∙ ap (λ (h : Held). parcel_named h.has c.args.inos.now c.args.pages.now c.args.inodes.now) c.self.view_is in
    let rest : c.take.new.self.has ≡ rest_of has c.args.inos.now c.args.pages.now c.args.inodes.now = c.in-Ok.ensures.rest ∙ ap (λ (h : Held). rest_of h.has c.args.inos.now c.args.pages.now c.args.inodes.now) c.self.view_is in
    let left = rest_of has c.args.inos.now c.args.pages.now c.args.inodes.now in
    let out = (g.D.Desk.seen c.args.desk.now).out in
    let out' = (g.D.Desk.seen c.release.new.self).out in
    subst (HasLeases out') (sym rest)
    (leases_alike out' (without_parcel out (parcel_of c.in-Ok.bundle)) left c.in-Ok-release.ensures.seen.out
    (subst (λ p. HasLeases (without_parcel out p) left) (sym parcel)
    (leases-rest out has c.args.inos.now c.args.pages.now c.args.inodes.now all l)))

pub returns-in-Err-clause-call : goal.returns-in-Err-clause-call
returns-in-Err-clause-call g c =
    let has = c.args.self.now.has in
    let parcel : parcel_of c.in-Ok.bundle ≡ parcel_named has c.args.inos.now c.args.pages.now c.args.inodes.now = c.in-Ok.ensures.parcel ∙ ap (λ (h : Held). parcel_named h.has c.args.inos.now c.args.pages.now c.args.inodes.now) c.self.view_is in
    let rest : c.take.new.self.has ≡ rest_of has c.args.inos.now c.args.pages.now c.args.inodes.now = c.in-Ok.ensures.rest ∙ ap (λ (h : Held). rest_of h.has c.args.inos.now c.args.pages.now c.args.inodes.now) c.self.view_is in
    let back : c.put_back.new.self.has ≡ with_parcel (rest_of has c.args.inos.now c.args.pages.now c.args.inodes.now) (parcel_named has c.args.inos.now c.args.pages.now c.args.inodes.now) =
    c.put_back.ensures ∙ ap (λ (b : Bundled). with_parcel c.take.new.self.has (parcel_of b)) c.in-Err.ensures.back
    ∙ ap (with_parcel c.take.new.self.has) parcel
    ∙ ap (λ (h : Has). with_parcel h (parcel_named has c.args.inos.now c.args.pages.now c.args.inodes.now)) rest in
    let told = NotJudged c.in-Err.fault in
    Made told (subst (λ p. g.D.Desk.called c.args.desk.now (Release p) told c.release.new.self) parcel c.in-Err.ensures.called) (ap Err c.raw_fault.ensures, back)

pub returns-in-Err-clause-stands : goal.returns-in-Err-clause-stands
returns-in-Err-clause-stands g c =
    let has = c.args.self.now.has in
    let all : has_all_of has c.args.inos.now c.args.pages.now c.args.inodes.now ≡ true = ap (λ (h : Held). has_all_of h.has c.args.inos.now c.args.pages.now c.args.inodes.now) (sym c.self.view_is) ∙ sym c.has_all_of.ensures ∙ c.if-not-has_all_of.false in
    let parcel : parcel_of c.in-Ok.bundle ≡ parcel_named has c.args.inos.now c.args.pages.now c.args.inodes.now = c.in-Ok.ensures.parcel ∙ ap (λ (h : Held). parcel_named h.has c.args.inos.now c.args.pages.now c.args.inodes.now) c.self.view_is in
    let rest : c.take.new.self.has ≡ rest_of has c.args.inos.now c.args.pages.now c.args.inodes.now = c.in-Ok.ensures.rest ∙ ap (λ (h : Held). rest_of h.has c.args.inos.now c.args.pages.now c.args.inodes.now) c.self.view_is in
    let all_back = with_parcel (rest_of has c.args.inos.now c.args.pages.now c.args.inodes.now) (parcel_named has c.args.inos.now c.args.pages.now c.args.inodes.now) in
    let back : c.put_back.new.self.has ≡ all_back =
    c.put_back.ensures ∙ ap (λ (b : Bundled). with_parcel c.take.new.self.has (parcel_of b)) c.in-Err.ensures.back
    ∙ ap (with_parcel c.take.new.self.has) parcel
    ∙ ap (λ (h : Has). with_parcel h (parcel_named has c.args.inos.now c.args.pages.now c.args.inodes.now)) rest in
    let out = (g.D.Desk.seen c.args.desk.now).out in
    let out' = (g.D.Desk.seen c.release.new.self).out in
    subst (OnList out') (sym back)
    (stands_alike out' out all_back c.in-Err.ensures.seen.out (stands-returned out has c.args.inos.now c.args.pages.now c.args.inodes.now all c.requires.stands))

pub returns-in-Err-clause-leases : goal.returns-in-Err-clause-leases
returns-in-Err-clause-leases g c l =
    let has = c.args.self.now.has in
    let all : has_all_of has c.args.inos.now c.args.pages.now c.args.inodes.now ≡ true = ap (λ (h : Held). has_all_of h.has c.args.inos.now c.args.pages.now c.args.inodes.now) (sym c.self.view_is) ∙ sym c.has_all_of.ensures ∙ c.if-not-has_all_of.false in
    let parcel : parcel_of c.in-Ok.bundle ≡ parcel_named has c.args.inos.now c.args.pages.now c.args.inodes.now = c.in-Ok.ensures.parcel ∙ ap (λ (h : Held). parcel_named h.has c.args.inos.now c.args.pages.now c.args.inodes.now) c.self.view_is in
    let rest : c.take.new.self.has ≡ rest_of has c.args.inos.now c.args.pages.now c.args.inodes.now = c.in-Ok.ensures.rest ∙ ap (λ (h : Held). rest_of h.has c.args.inos.now c.args.pages.now c.args.inodes.now) c.self.view_is in
    let all_back = with_parcel (rest_of has c.args.inos.now c.args.pages.now c.args.inodes.now) (parcel_named has c.args.inos.now c.args.pages.now c.args.inodes.now) in
    let back : c.put_back.new.self.has ≡ all_back =
    c.put_back.ensures ∙ ap (λ (b : Bundled). with_parcel c.take.new.self.has (parcel_of b)) c.in-Err.ensures.back
    ∙ ap (with_parcel c.take.new.self.has) parcel
    ∙ ap (λ (h : Has). with_parcel h (parcel_named has c.args.inos.now c.args.pages.now c.args.inodes.now)) rest in
    let out = (g.D.Desk.seen c.args.desk.now).out in
    let out' = (g.D.Desk.seen c.release.new.self).out in
    subst (HasLeases out') (sym back)
    (leases_alike out' out all_back c.in-Err.ensures.seen.out (leases-returned out has c.args.inos.now c.args.pages.now c.args.inodes.now all l))

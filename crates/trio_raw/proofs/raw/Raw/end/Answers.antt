use Rattle.trio_raw.proofs.Words.{◌∙◌, ◌≡◌, Bundled, Calls, Has, Held, In, IsClosed, Judged, NoReleaseMemory, NotJudged, OnList, Parcel, Release, TellsClosed, WasGiven, [], ap, back_calls, parcel_of, subst, sym, whole_parcel, with_reads}
use Rattle.trio_raw.specs.Asked.{release_call}
use Rattle.trio_raw.proofs.Asking.{only_memory}
use Rattle.trio_raw.proofs.Backing.{calls_more}
use Rattle.trio_raw.proofs.Standing.{stands_alike, whole-given}
use Rattle.trio_raw.proofs.raw.Raw.end.Goals as goal

pub release-requires : goal.release-requires
release-requires g c =
    let out = (g.D.Desk.seen c.give_all_back.new.desk).out in
    subst (WasGiven out) (sym c.into_bundle.ensures) (whole-given out c.give_all_back.new.things.has c.give_all_back.ensures.stands)

pub returns-in-Ok-clause-calls : goal.returns-in-Ok-clause-calls
returns-in-Ok-clause-calls g c =
    let has = c.args.self.has in
    let parcel : parcel_of c.into_bundle.result ≡ whole_parcel has = c.into_bundle.ensures ∙ ap whole_parcel c.give_all_back.ensures.left ∙ ap (λ (h : Held). whole_parcel h.has) c.self.view_is in
    let backs = subst (λ (h : Held). Calls g.D.Desk.called c.args.desk.now (back_calls h.has.reads) c.give_all_back.new.desk) c.self.view_is c.give_all_back.ensures.calls in
    let told = Judged c.in-Ok.answer in
    calls_more g.D.Desk.called (back_calls has.reads) (release_call has told) c.args.desk.now c.give_all_back.new.desk c.release.new.self backs
    (subst (λ p. g.D.Desk.called c.give_all_back.new.desk (Release p) told c.release.new.self) parcel c.in-Ok.ensures.called)

pub returns-in-Err-clause-calls : goal.returns-in-Err-clause-calls
returns-in-Err-clause-calls g c =
    let has = c.args.self.has in
    let out = (g.D.Desk.seen c.give_all_back.new.desk).out in
    let parcel : parcel_of c.into_bundle.result ≡ whole_parcel has = c.into_bundle.ensures ∙ ap whole_parcel c.give_all_back.ensures.left ∙ ap (λ (h : Held). whole_parcel h.has) c.self.view_is in
    let backs = subst (λ (h : Held). Calls g.D.Desk.called c.args.desk.now (back_calls h.has.reads) c.give_all_back.new.desk) c.self.view_is c.give_all_back.ensures.calls in
    let closed : IsClosed out (whole_parcel has) = λ h i. c.requires.closed h (subst (In h) c.give_all_back.ensures.holds i) in
    let fault = c.in-Err.field-0-1 in
    let memory = only_memory out (whole_parcel has) fault closed (subst (λ p. TellsClosed out p (NotJudged fault)) parcel c.in-Err.ensures.closed) in
    calls_more g.D.Desk.called (back_calls has.reads) (release_call has (NotJudged NoReleaseMemory)) c.args.desk.now c.give_all_back.new.desk c.release.new.self backs
    (subst (λ f. g.D.Desk.called c.give_all_back.new.desk (Release (whole_parcel has)) (NotJudged f) c.release.new.self) memory
    (subst (λ p. g.D.Desk.called c.give_all_back.new.desk (Release p) (NotJudged fault) c.release.new.self) parcel c.in-Err.ensures.called))

pub returns-in-Err-clause-stands : goal.returns-in-Err-clause-stands
returns-in-Err-clause-stands g c =
    let has = c.args.self.has in
    let out = (g.D.Desk.seen c.give_all_back.new.desk).out in
    let out' = (g.D.Desk.seen c.release.new.self).out in
    let parcel : parcel_of c.into_bundle.result ≡ whole_parcel has = c.into_bundle.ensures ∙ ap whole_parcel c.give_all_back.ensures.left ∙ ap (λ (h : Held). whole_parcel h.has) c.self.view_is in
    let rest : Parcel → Has = λ p. record { writes = p.writes; reads = []; holds = p.holds; pages = p.pages; inodes = p.inodes } in
    let back : c.of_bundle-things.result.has ≡ with_reads has [] = c.of_bundle-things.ensures ∙ ap (λ (b : Bundled). rest (parcel_of b)) c.in-Err.ensures.back ∙ ap rest parcel in
    let left = c.give_all_back.ensures.left ∙ ap (λ (h : Held). with_reads h.has []) c.self.view_is in
    subst (OnList out') (sym back) (stands_alike out' out (with_reads has []) c.in-Err.ensures.seen.out (subst (OnList out) left c.give_all_back.ensures.stands))

pub returns-in-Err-clause-closed : goal.returns-in-Err-clause-closed
returns-in-Err-clause-closed g c =
    let has = c.args.self.has in
    let out' = (g.D.Desk.seen c.release.new.self).out in
    let parcel : parcel_of c.into_bundle.result ≡ whole_parcel has = c.into_bundle.ensures ∙ ap whole_parcel c.give_all_back.ensures.left ∙ ap (λ (h : Held). whole_parcel h.has) c.self.view_is in
    let rest : Parcel → Has = λ p. record { writes = p.writes; reads = []; holds = p.holds; pages = p.pages; inodes = p.inodes } in
    let back : c.of_bundle-things.result.has ≡ with_reads has [] = c.of_bundle-things.ensures ∙ ap (λ (b : Bundled). rest (parcel_of b)) c.in-Err.ensures.back ∙ ap rest parcel in
    let closed : IsClosed out' (whole_parcel has) = λ h i. c.requires.closed h (subst (In h) (c.in-Err.ensures.seen.out.holds ∙ c.give_all_back.ensures.holds) i) in
    subst (λ (x : Has). IsClosed out' (whole_parcel x)) (sym back) closed

use Rattle.trio_session.proofs.Words.{◌<◌, ◌∙◌, ◌≡◌, ◌≤◌, Allot, AreApart, AreDirs, AreLaid, AreMade, Gave, Given, In, IsOn, NotGiven, NotMade, OneCall, Parcel, Refused, SessionSeen, ap, arith, bundled, has_out, ino_numbers, length, length-append, page_numbers, parcel_of, refl, subst, sym, vec_capacity, with_given, IsBlank}
use Rattle.trio_session.specs.inner.Giving.{Allots, Unasked}
use Rattle.std.specs.Prelude.{◌+◌}
use Rattle.trio_session.proofs.Allotted.{kept_given, view_given}
use Rattle.trio_session.proofs.Kept.{files_of}
use Rattle.trio_session.proofs.Wants.{given_apart, given_laid, given_view, given_on}
use Rattle.trio_session.proofs.Desks.{on_still}
use Rattle.trio_session.specs.contracts.session.Session.{the_view}
use Rattle.trio_session.specs.Asked.{AfterWant, NoWant, TellsAllotment}
use Rattle.trio_desk.specs.Calls.{Made}
use Rattle.trio_session.proofs.session.Session.want.Goals as goal
use Rattle.trio_session.proofs.session.Session.want.Given.{Over}

same_room : (g : Over) (c : goal.After-discard g) → the_view c.self.inside ≡ record c.args.self.now { room = (the_view c.self.inside).room }
same_room g c = ap (λ (x : SessionSeen). record x { room = (the_view c.self.inside).room }) c.self.view_is

pub of_parts-requires : goal.of_parts-requires
of_parts-requires g c =
    let p = c.self.inside.stock in
    let p' = parcel_of (bundled c.allot_into-answer.new.parts) in
    let ls = c.self.inside.laid.items in
    let seen = g.D.Desk.seen c.args.desk.now in
    let old : parcel_of (bundled c.into_parts-parts.result) ≡ p = c.into_parts-parts.ensures.parts ∙ c.replace.ensures.value in
    let on : IsOn seen c.args.self.now = c.requires in
    let apart : AreApart p = subst AreApart c.replace.ensures.value c.into_parts-parts.ensures.apart in
    elim (subst (λ q. Allots g.D.Desk.called g.D.Desk.seen c.args.desk.now c.args.pages c.args.inodes c.allot_into-answer.new.desk q p' c.allot_into-answer.result) old c.allot_into-answer.ensures) [
      | Gave given called seen' fresh wanted kept ok ↦ subst AreApart (sym kept) (given_apart p given seen.lib seen.sizes seen.out apart fresh
          (on.out.writes ∙ ap (λ (s : SessionSeen). (has_out s).writes) (sym c.self.view_is))
          (λ n i. (on.out.pages n).1 (subst (λ (s : SessionSeen). In n (has_out s).pages) c.self.view_is i)) c.self.invariant.0.same)
      | Refused fault called seen' lack kept err ↦ subst AreApart (sym kept) apart
      | Unasked same kept err ↦ subst AreApart (sym kept) apart
    ]

pub invariant_of-self : goal.invariant_of-self
invariant_of-self g c =
    let p = c.self.inside.stock in
    let p' = parcel_of (bundled c.allot_into-answer.new.parts) in
    let ls = c.self.inside.laid.items in
    let ms = c.self.inside.made.items in
    let cs = c.self.inside.cleared.items in
    let ds = c.self.inside.dirs.items in
    let reads = c.self.inside.reads.items in
    let seen = g.D.Desk.seen c.args.desk.now in
    let old : parcel_of (bundled c.into_parts-parts.result) ≡ p = c.into_parts-parts.ensures.parts ∙ c.replace.ensures.value in
    let now : c.replace-2.new.dest ≡ p' = c.replace-2.ensures.after ∙ c.of_parts.ensures in
    let on : IsOn seen c.args.self.now = c.requires in
    let P : Parcel → Type 0 = λ x. AreLaid x ls × (c.self.inside.placed ≤ length x.pages) × (length c.self.inside.calls.items < 4294967296) × AreMade c.self.inside.placed reads (files_of x ls ms cs)
    × AreDirs reads (files_of x ls ms cs) ds × (length ms + length cs ≤ vec_capacity c.self.inside.cleared) × IsBlank c.self.inside.next in
    subst P (sym now)
    (elim (subst (λ q. Allots g.D.Desk.called g.D.Desk.seen c.args.desk.now c.args.pages c.args.inodes c.allot_into-answer.new.desk q p' c.allot_into-answer.result) old c.allot_into-answer.ensures) [
      | Gave given called seen' fresh wanted kept ok ↦
          let apart = given_apart p given seen.lib seen.sizes seen.out c.self.invariant.3.apart fresh
          (on.out.writes ∙ ap (λ (s : SessionSeen). (has_out s).writes) (sym c.self.view_is))
          (λ n i. (on.out.pages n).1 (subst (λ (s : SessionSeen). In n (has_out s).pages) c.self.view_is i)) c.self.invariant.0.same in
          let both = kept_given c.self.inside.placed reads p ls ms cs given c.self.invariant.0 c.self.invariant.3 apart ds seen.lib seen.sizes seen.out fresh c.self.invariant.4 in
          let more : c.self.inside.placed ≤ length (with_given p given).pages = (let le = c.self.invariant.1 in let len = length-append p.pages given.pages.items in omega (arith, le, len)) in
          subst P (sym kept) (given_laid p ls given c.self.invariant.0, more, c.self.invariant.2, both.0, both.1, c.self.invariant.5, c.self.invariant.6)
      | Refused fault called seen' lack kept err ↦ subst P (sym kept) c.self.invariant
      | Unasked same kept err ↦ subst P (sym kept) c.self.invariant
    ])

pub returns-clause-call : goal.returns-clause-call
returns-clause-call g c =
    let p = c.self.inside.stock in
    let p' = parcel_of (bundled c.allot_into-answer.new.parts) in
    let ls = c.self.inside.laid.items in
    let ms = c.self.inside.made.items in
    let cs = c.self.inside.cleared.items in
    let reads = c.self.inside.reads.items in
    let seen = g.D.Desk.seen c.args.desk.now in
    let old : parcel_of (bundled c.into_parts-parts.result) ≡ p = c.into_parts-parts.ensures.parts ∙ c.replace.ensures.value in
    let now : c.replace-2.new.dest ≡ p' = c.replace-2.ensures.after ∙ c.of_parts.ensures in
    let view : Parcel → SessionSeen = λ x. the_view (record c.self.inside { stock = x }) in
    let room = (view p).room in
    let s = c.args.self.now in
    let on : IsOn seen s = c.requires in
    let d' = g.D.Desk.seen c.allot_into-answer.new.desk in
    subst (λ (x : Parcel). OneCall g.D.Desk.called c.args.desk.now (Allot c.args.pages c.args.inodes) c.allot_into-answer.new.desk
    (λ told. TellsAllotment seen c.args.pages c.args.inodes told d' × AfterWant s c.allot_into-answer.result (view x) told) (NoWant s c.allot_into-answer.result (view x))) (sym now)
    (elim (subst (λ q. Allots g.D.Desk.called g.D.Desk.seen c.args.desk.now c.args.pages c.args.inodes c.allot_into-answer.new.desk q p' c.allot_into-answer.result) old c.allot_into-answer.ensures) [
      | Gave given called seen' fresh wanted kept ok ↦
          let apart = given_apart p given seen.lib seen.sizes seen.out c.self.invariant.3.apart fresh
          (on.out.writes ∙ ap (λ (s : SessionSeen). (has_out s).writes) (sym c.self.view_is))
          (λ n i. (on.out.pages n).1 (subst (λ (s : SessionSeen). In n (has_out s).pages) c.self.view_is i)) c.self.invariant.0.same in
          Made (Given (page_numbers given.pages.items) (ino_numbers given.inodes.items)) called (
            record { seen = seen'; lack = tt; fits = (given, fresh, wanted, refl, refl) },
            (
              ok,
              ap view kept
                  ∙ view_given c.self.inside given c.self.invariant apart
                  ∙ ap (λ (x : SessionSeen). record x { parcel = with_given x.parcel given; room = room }) c.self.view_is
                  ∙ ap (λ (x : SessionSeen). record x { room = room }) (given_view s given seen.lib seen.sizes seen.out fresh c.requires.lib),
            ),
          )
      | Refused fault called seen' lack kept err ↦ Made (NotGiven fault) called (record { seen = seen'; lack = lack; fits = tt }, (err, ap view kept ∙ same_room g c))
      | Unasked same kept err ↦ NotMade same (err, ap view kept ∙ same_room g c)
    ])

pub returns-clause-on : goal.returns-clause-on
returns-clause-on g c =
    let p = c.self.inside.stock in
    let p' = parcel_of (bundled c.allot_into-answer.new.parts) in
    let seen = g.D.Desk.seen c.args.desk.now in
    let old : parcel_of (bundled c.into_parts-parts.result) ≡ p = c.into_parts-parts.ensures.parts ∙ c.replace.ensures.value in
    let now : c.replace-2.new.dest ≡ p' = c.replace-2.ensures.after ∙ c.of_parts.ensures in
    let view : Parcel → SessionSeen = λ x. the_view (record c.self.inside { stock = x }) in
    let room = (view p).room in
    let s = c.args.self.now in
    let d' = g.D.Desk.seen c.allot_into-answer.new.desk in
    let on : IsOn seen s = c.requires in
    subst (λ (x : Parcel). IsOn d' (view x)) (sym now)
    (elim (subst (λ q. Allots g.D.Desk.called g.D.Desk.seen c.args.desk.now c.args.pages c.args.inodes c.allot_into-answer.new.desk q p' c.allot_into-answer.result) old c.allot_into-answer.ensures) [
      | Gave given called seen' fresh wanted kept ok ↦
          let apart = given_apart p given seen.lib seen.sizes seen.out c.self.invariant.3.apart fresh
          (on.out.writes ∙ ap (λ (s : SessionSeen). (has_out s).writes) (sym c.self.view_is))
          (λ n i. (on.out.pages n).1 (subst (λ (s : SessionSeen). In n (has_out s).pages) c.self.view_is i)) c.self.invariant.0.same in
          subst (IsOn d') (sym (ap view kept ∙ view_given c.self.inside given c.self.invariant apart ∙ ap (λ (x : SessionSeen). record x { parcel = with_given x.parcel given; room = room }) c.self.view_is))
          (given_on seen d' c.args.pages c.args.inodes s given s.chains room seen' fresh on)
      | Refused fault called seen' lack kept err ↦ subst (IsOn d') (sym (ap view kept ∙ c.self.view_is)) (on_still seen d' (Allot c.args.pages c.args.inodes) (NotGiven fault) s seen' refl on)
      | Unasked same kept err ↦ subst (IsOn d') (sym (ap view kept ∙ c.self.view_is)) (subst (λ d. IsOn (g.D.Desk.seen d) s) (sym same) on)
    ])

use Rattle.trio_session.proofs.Words.{if◌then◌else◌, ◌∙◌, ◌≡◌, Bool, Directory, HoldParts, Kind, List, Made, None, Some, ap, entry_count, eqb, eqb-true, is_directory, made_seen, option_copied, option_map, option_or, refl, slots_shown, subst, sym, is_directory-true}
use Rattle.trio_session.proofs.Found.{position-passes, position-same, slice_get-found}
use Rattle.trio_session.proofs.Indexed.{dir_index, index_missing, open_shown}
use Rattle.trio_session.proofs.Insides.{files_in, view_shows}
use Rattle.trio_session.proofs.Seeing.{Shows, children_held, children_made, made_shown, made_there, open_made}
use Rattle.trio_session.proofs.session.Session.children.Goals as goal

pub returns-in_err-index_on-in-Some : goal.returns-in_err-index_on-in-Some
returns-in_err-index_on-in-Some c =
    let s = c.self.inside in
    let fs = files_in s in
    let shows = subst (λ v. Shows v fs) c.self.view_is (view_shows s) in
    let p : Made → Bool = λ m. eqb m.ino c.args.ino in
    let at = position-same p s.made.items c.deref.result.now c.made_of.result (Some c.in-Some.at) c.deref.ensures.value c.made_of.ensures c.in-Some.is in
    let m = c.index.result.now in
    let there = slice_get-found p s.made.items c.in-Some.at m at c.index.ensures in
    let directory = is_directory-true m.kind (sym c.is_directory.ensures ∙ c.if-is_directory.true) in
    absurd (index_missing c.args.self.now s c.args.ino c.index_on.result c.deref-then-is_directory.result.now c.self.view_is
    (c.requires (made_seen s.stock m) (made_shown c.args.self.now fs c.args.ino (Some (made_seen s.stock m)) shows (made_there s.stock s.made.items c.args.ino c.in-Some.at m at there)) directory)
    c.deref-then-is_directory.ensures.value c.index_on.ensures c.in_err-index_on-in-Some.was)

pub returns-else-is_directory : goal.returns-else-is_directory
returns-else-is_directory c =
    let s = c.self.inside in
    let fs = files_in s in
    let shows = subst (λ v. Shows v fs) c.self.view_is (view_shows s) in
    let p : Made → Bool = λ m. eqb m.ino c.args.ino in
    let at = position-same p s.made.items c.deref.result.now c.made_of.result (Some c.in-Some.at) c.deref.ensures.value c.made_of.ensures c.in-Some.is in
    let m = c.index.result.now in
    let there = slice_get-found p s.made.items c.in-Some.at m at c.index.ensures in
    sym (children_made c.args.self.now fs c.args.ino c.in-Some.at m shows at there ∙ ap (λ t. Some (if t then entry_count (slots_shown c.args.self.now m.ino) else 0)) (sym c.is_directory.ensures ∙ c.if-is_directory.false))

pub returns-in_ok-index_on-in-Some : goal.returns-in_ok-index_on-in-Some
returns-in_ok-index_on-in-Some c =
    let s = c.self.inside in
    let fs = files_in s in
    let shows = subst (λ v. Shows v fs) c.self.view_is (view_shows s) in
    let p : Made → Bool = λ m. eqb m.ino c.args.ino in
    let at = position-same p s.made.items c.deref.result.now c.made_of.result (Some c.in-Some.at) c.deref.ensures.value c.made_of.ensures c.in-Some.is in
    let m = c.index.result.now in
    let there = slice_get-found p s.made.items c.in-Some.at m at c.index.ensures in
    let directory = is_directory-true m.kind (sym c.is_directory.ensures ∙ c.if-is_directory.true) in
    let same = eqb-true m.ino c.args.ino (position-passes p s.made.items c.in-Some.at m at there) in
    let shown = open_made c.args.self.now fs c.args.ino c.in-Some.at m shows at there ∙ ap Some directory in
    ap Some (c.len.ensures ∙ ap entry_count (dir_index c.args.self.now s c.args.ino c.index_on.result c.deref-then-is_directory.result.now c.in_ok-index_on-in-Some.field-0 c.self.view_is c.self.invariant
    (open_shown c.args.self.now c.args.ino shown) c.deref-then-is_directory.ensures.value c.index_on.ensures c.in_ok-index_on-in-Some.was) ∙ ap (λ n. entry_count (slots_shown c.args.self.now n)) (sym same))
    ∙ sym (children_made c.args.self.now fs c.args.ino c.in-Some.at m shows at there ∙ ap (λ k. Some (if is_directory k then entry_count (slots_shown c.args.self.now m.ino) else 0)) directory)

pub returns-in_err-hold_on-in-None : goal.returns-in_err-hold_on-in-None
returns-in_err-hold_on-in-None c =
    let s = c.self.inside in
    let fs = files_in s in
    let shows = subst (λ v. Shows v fs) c.self.view_is (view_shows s) in
    let p : Made → Bool = λ m. eqb m.ino c.args.ino in
    let none = position-same p s.made.items c.deref.result.now c.made_of.result None c.deref.ensures.value c.made_of.ensures c.in-None.is in
    c.from_residual-in_err-hold_on-in-None.ensures
    ∙ sym (children_held c.args.self.now fs c.args.ino shows none ∙ ap (option_map (λ (h : HoldParts). h.children)) (sym c.hold_on.ensures ∙ ap option_copied c.in_err-hold_on-in-None.was))

pub returns-in_ok-hold_on-in-None : goal.returns-in_ok-hold_on-in-None
returns-in_ok-hold_on-in-None c =
    let s = c.self.inside in
    let fs = files_in s in
    let shows = subst (λ v. Shows v fs) c.self.view_is (view_shows s) in
    let p : Made → Bool = λ m. eqb m.ino c.args.ino in
    let none = position-same p s.made.items c.deref.result.now c.made_of.result None c.deref.ensures.value c.made_of.ensures c.in-None.is in
    ap Some c.children.ensures
    ∙ sym (children_held c.args.self.now fs c.args.ino shows none ∙ ap (option_map (λ (h : HoldParts). h.children)) (sym c.hold_on.ensures ∙ ap option_copied c.in_ok-hold_on-in-None.was))

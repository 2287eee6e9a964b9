use Rattle.trio_session.proofs.Words.{◌++◌, ◌∙◌, ◌∷◌, ◌≡◌, Bor, In, IndexedDir, List, None, Option, SessionSeen, Some, [], ap, dir_numbers, eqb, false, find, is_some, option_copied, refl, subst, sym, ℕ}
use Rattle.trio_session.proofs.Dirs.{copied_some, dir_there, push_has, push_more}
use Rattle.trio_session.proofs.Indexed.{index_missing}
use Rattle.trio_session.proofs.Indexing.{dirs_pushed}
use Rattle.trio_session.proofs.session.Session.index_dir.Goals as goal

-- where none was found
not_found : (o : Option (Bor IndexedDir)) → is_some o ≡ false → o ≡ None
not_found None e = refl
not_found (Some d) e = absurd (cc e)

pub returns-then-is_some-clause-done : goal.returns-then-is_some-clause-done
returns-then-is_some-clause-done c =
    let there = dir_there c.deref.result.now c.args.ino (copied_some c.index_on.result (find (λ x. eqb x.ino c.args.ino) c.deref.result.now) (sym c.is_some.ensures ∙ c.if-is_some.true) c.index_on.ensures) in
    subst (λ (x : SessionSeen). In c.args.ino x.indexed) c.self.view_is (subst (λ ds. In c.args.ino (dir_numbers ds)) c.deref.ensures.value there)

pub new_index-requires-clause-new : goal.new_index-requires-clause-new
new_index-requires-clause-new c = λ i.
    index_missing c.args.self.now c.self.inside c.args.ino c.index_on.result c.deref.result.now c.self.view_is i c.deref.ensures.value c.index_on.ensures (not_found c.index_on.result (sym c.is_some.ensures ∙ c.if-is_some.false))

pub invariant_of-self-2 : goal.invariant_of-self-2
invariant_of-self-2 c =
    let s = c.self.inside in
    let is = c.self.invariant in
    let new : In c.args.ino c.args.self.now.indexed → ⊥ = λ i.
    index_missing c.args.self.now s c.args.ino c.index_on.result c.deref.result.now c.self.view_is i c.deref.ensures.value c.index_on.ensures (not_found c.index_on.result (sym c.is_some.ensures ∙ c.if-is_some.false)) in
    let items : c.push_reserved.new.self.items ≡ s.dirs.items ++ (record { ino = c.args.ino; dir = c.in-Ok.dir }) ∷ [] =
    c.push_reserved.ensures.items ∙ ap (λ ds. ds ++ (record { ino = c.args.ino; dir = c.in-Ok.dir }) ∷ []) c.reserve.ensures.items in
    (is.0, is.1, is.2, is.3, dirs_pushed c.args.self.now s (record { ino = c.args.ino; dir = c.in-Ok.dir }) c.push_reserved.new.self.items c.self.view_is is c.requires.directory new c.in-Ok.ensures.inodes c.in-Ok.ensures.slots items, is.5, is.6)

pub returns-clause-more : goal.returns-clause-more
returns-clause-more c = λ n i.
    push_more c.self.inside.dirs.items c.push_reserved.new.self.items (record { ino = c.args.ino; dir = c.in-Ok.dir }) n
    (c.push_reserved.ensures.items ∙ ap (λ ds. ds ++ (record { ino = c.args.ino; dir = c.in-Ok.dir }) ∷ []) c.reserve.ensures.items)
    (subst (λ (x : SessionSeen). In n x.indexed) (sym c.self.view_is) i)

pub returns-clause-done : goal.returns-clause-done
returns-clause-done c =
    push_has c.self.inside.dirs.items c.push_reserved.new.self.items (record { ino = c.args.ino; dir = c.in-Ok.dir })
    (c.push_reserved.ensures.items ∙ ap (λ ds. ds ++ (record { ino = c.args.ino; dir = c.in-Ok.dir }) ∷ []) c.reserve.ensures.items)

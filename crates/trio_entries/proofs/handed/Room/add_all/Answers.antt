use Rattle.trio_entries.proofs.Words.{◌++◌, ◌+◌, ◌-◌, ◌∙◌, ◌∷◌, ◌≡◌, IsRoom, Room, [], ap, append_assoc, arith, length, option_map, pages_of, subst, sym, take}
use Rattle.trio_entries.specs.inner.Sources.{page_seen}
use Rattle.trio_entries.proofs.Turns.{at_end, take_one}
use Rattle.trio_entries.proofs.handed.Room.add_all.Goals as goal
use Rattle.trio_entries.proofs.handed.Room.add_all.Goals.{in-Some, in_default}

pub loop-i-preserved : goal.loop-i-preserved
loop-i-preserved c =
    let pages = pages_of c.args.source.now in
    let old = c.args.self.now.pages.items in
    let i = c.loop-i.i in
    let left = length pages - (i + 1) in
    let within = c.loop-i-test.true in
    let one : length pages - i ≡ left + 1 = omega (arith, within, c.len-i-end.ensures) in
    elim c.match-page.branch [
      | in-Some w ↦
          let at = sym c.page.ensures ∙ ap (option_map page_seen) w.in-Some.is in (
            ap (λ (r : Room). r.pages.items) w.self-is ∙ w.add.ensures.pages ∙ ap (λ ps. ps ++ page_seen w.in-Some.page ∷ []) c.loop-i.invariant.0
                ∙ append_assoc old (take i pages) (page_seen w.in-Some.page ∷ [])
                ∙ ap (λ ps. old ++ ps) (sym (take_one pages i (page_seen w.in-Some.page) at)),
            (
              subst (IsRoom left) (sym w.self-is) (w.add.ensures.room left (subst (λ m. IsRoom m c.loop-i.self) one c.loop-i.invariant.1.0)),
              λ n r.
                  let more : n + (length pages - i) ≡ (n + left) + 1 = omega (arith, one) in
                  subst (IsRoom (n + left)) (sym w.self-is) (w.add.ensures.room (n + left) (subst (λ m. IsRoom m c.loop-i.self) more (c.loop-i.invariant.1.1 n r))),
            ),
          )
      | in_default w ↦ absurd (at_end pages i (sym (ap (option_map page_seen) w.in_default.is) ∙ c.page.ensures) (omega (arith, within, c.len-i-end.ensures)))
    ]

pub returns-clause-room : goal.returns-clause-room
returns-clause-room c = λ n r.
    let done : n + (length (pages_of c.args.source.now) - c.loop-i.i) ≡ n = omega (arith, c.loop-i-test.false, c.len-i-end.ensures) in
    subst (λ m. IsRoom m c.loop-i.self) done (c.loop-i.invariant.1.1 n r)

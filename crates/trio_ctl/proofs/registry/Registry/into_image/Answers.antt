use Rattle.trio_ctl.proofs.Words.{◌∙◌, IsVerified, Pages, State, Superblock, ap, arith, length, settled, stored_pages, subst, superblock_at_home, superblock_facts, superblock_for, sym, Registered, refl, ◌≤◌}
use Rattle.trio_ctl.proofs.Views.{state_is}
use Rattle.trio_ctl.proofs.AtHome.{at_home, same_settled, state_at_home, writer_is}
use Rattle.trio_ctl.proofs.Storing.{stored_count, stored_tables, stored_verified, tells, tells_alike}
use Rattle.trio_ctl.proofs.Seen.{kept_is, looked_more, state_still}
use Rattle.trio_ctl.proofs.Granting.{controlled_still}
use Rattle.trio_ctl.proofs.registry.Registry.into_image.Goals as goal

pub returns-in-Some-clause-answer : goal.returns-in-Some-clause-answer
returns-in-Some-clause-answer c =
    let s = c.ctl.inside in
    rw (← (state_is c.ctl.view_is))
    (sym (writer_is s.store s.first_core s.grants s.files.items s.libs.items s.history s.begun.items c.ctl.invariant) ∙ sym c.writer.ensures ∙ c.in-Some.is)

pub of-requires : goal.of-requires
of-requires c =
    let s = c.ctl.inside in
    let none = sym c.writer.ensures ∙ c.in_default.is in
    let k = at_home s.store s.first_core s.grants s.files.items s.libs.items s.history s.begun.items c.ctl.invariant none in
    let made = c.in-Ok.ensures in
    let sizes = c.superblock-superblock.ensures ∙ ap (λ (v : State). superblock_for v.home.core) (sym (state_is c.ctl.view_is)) in
    let laid = made.pages ∙ ap (λ (x : Superblock). stored_pages x s.store.home.pages s.store.rows s.store.owners) sizes in
    omega (arith, ap length laid, stored_count (superblock_at_home s.store s.first_core) s.store.home.pages s.store.rows s.store.owners s.store.allotments s.libs.items s.history.made k made.shadow made.owner, superblock_facts (superblock_at_home s.store s.first_core) k.fits)

pub of-requires-2 : goal.of-requires-2
of-requires-2 c =
    let s = c.ctl.inside in
    let none = sym c.writer.ensures ∙ c.in_default.is in
    let k = at_home s.store s.first_core s.grants s.files.items s.libs.items s.history s.begun.items c.ctl.invariant none in
    let made = c.in-Ok.ensures in
    let sizes = c.superblock-superblock.ensures ∙ ap (λ (v : State). superblock_for v.home.core) (sym (state_is c.ctl.view_is)) in
    let laid = made.pages ∙ ap (λ (x : Superblock). stored_pages x s.store.home.pages s.store.rows s.store.owners) sizes in
    let pages = ap (λ (h : Pages). h.pages) c.of.ensures ∙ laid in (
      (superblock_at_home s.store s.first_core),
      subst (IsVerified (superblock_at_home s.store s.first_core)) (sym pages) (stored_verified (superblock_at_home s.store s.first_core) s.store.home.pages s.store.rows s.store.owners s.store.allotments s.libs.items s.history.made k made.shadow made.owner),
      rw pages (stored_tables (superblock_at_home s.store s.first_core) s.store.home.pages s.store.rows s.store.owners s.store.allotments s.libs.items s.history.made k made.shadow made.owner),
    )

pub returns-clause-image : goal.returns-clause-image
returns-clause-image c =
    let s = c.ctl.inside in
    let none = sym c.writer.ensures ∙ c.in_default.is in
    let k = at_home s.store s.first_core s.grants s.files.items s.libs.items s.history s.begun.items c.ctl.invariant none in
    let made = c.in-Ok.ensures in
    let sizes = c.superblock-superblock.ensures ∙ ap (λ (v : State). superblock_for v.home.core) (sym (state_is c.ctl.view_is)) in
    let laid = made.pages ∙ ap (λ (x : Superblock). stored_pages x s.store.home.pages s.store.rows s.store.owners) sizes in
    let pages = ap (λ (h : Pages). h.pages) c.of.ensures ∙ laid in
    tells_alike (state_at_home (superblock_at_home s.store s.first_core) s.store.home.pages s.store.rows s.store.owners s.store.allotments s.libs.items s.history.made) _ c.of-2.result
    (same_settled s.store s.first_core s.grants s.files.items s.libs.items s.history s.begun.items c.ctl.invariant none ∙ ap settled (state_is c.ctl.view_is))
    (ap (λ (v : State). v.pages_out) (state_is c.ctl.view_is))
    (tells (superblock_at_home s.store s.first_core) s.store.home.pages s.store.rows s.store.owners s.store.allotments s.libs.items s.history.made k made.shadow made.owner c.of-2.result
    (c.of-2.ensures.pages ∙ pages) (λ t has. c.of-2.ensures.superblock t (rw pages has)))

pub returns-clause-answer : goal.returns-clause-answer
returns-clause-answer c =
    let s = c.ctl.inside in
    rw (← (state_is c.ctl.view_is))
    (sym (writer_is s.store s.first_core s.grants s.files.items s.libs.items s.history s.begun.items c.ctl.invariant) ∙ sym c.writer.ensures ∙ c.in_default.is)

pub returns-clause-kept : goal.returns-clause-kept
returns-clause-kept c = kept_is c.ctl.view_is c.ctl.invariant.stored.kept

pub returns-in-Some-clause-kept : goal.returns-in-Some-clause-kept
returns-in-Some-clause-kept c = kept_is c.ctl.view_is c.ctl.invariant.stored.kept

pub invariant_of-ctl : goal.invariant_of-ctl
invariant_of-ctl c =
    let s = c.ctl.inside in
    controlled_still s.store s.first_core s.grants s.files.items s.libs.items s.history s.begun.items c.ctl.invariant _ s.grants s.files.items refl c.in_default-moved_pages.ensures.home refl refl

pub returns-in_default-moved_pages : goal.returns-in_default-moved_pages
returns-in_default-moved_pages c =
    let s = c.ctl.inside in
    record {
      answer =
          rw (← (state_is c.ctl.view_is))
          (sym (writer_is s.store s.first_core s.grants s.files.items s.libs.items s.history s.begun.items c.ctl.invariant) ∙ sym c.writer.ensures ∙ c.in_default.is);
      image = tt;
      back = state_still s.store (record s.store { home = c.moved_pages.new.home }) s.first_core s.files.items s.files.items s.libs.items s.history.made refl c.in_default-moved_pages.ensures.home refl ∙ state_is c.ctl.view_is;
      begun = ap (λ (x : Registered). x.begun) c.ctl.view_is;
      promised = ap (λ (x : Registered). x.promised) c.ctl.view_is;
      floor = looked_more c.ctl.view_is c.moved_pages.ensures.floor;
      kept = kept_is c.ctl.view_is c.ctl.invariant.stored.kept;
    }

pub moved_pages-requires-clause-order : goal.moved_pages-requires-clause-order
moved_pages-requires-clause-order c =
    let s = c.ctl.inside in
    let facts = superblock_facts (superblock_at_home s.store s.first_core) c.ctl.invariant.stored.fits in
    let sizes = c.superblock-superblock.ensures ∙ ap (λ (x : State). superblock_for x.home.core) (sym (state_is c.ctl.view_is)) in
    let core = facts.core in
    subst (λ (x : Superblock). x.first_core ≤ x.pages) (sym sizes) (omega (arith, core))

pub moved_pages-requires-clause-few : goal.moved_pages-requires-clause-few
moved_pages-requires-clause-few c =
    let s = c.ctl.inside in
    let facts = superblock_facts (superblock_at_home s.store s.first_core) c.ctl.invariant.stored.fits in
    let sizes = c.superblock-superblock.ensures ∙ ap (λ (x : State). superblock_for x.home.core) (sym (state_is c.ctl.view_is)) in
    subst (λ (x : Superblock). x.pages ≤ 8192) (sym sizes) facts.pages

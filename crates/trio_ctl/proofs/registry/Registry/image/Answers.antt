use Rattle.trio_ctl.proofs.Words.{◌∙◌, IsVerified, Pages, State, Superblock, ap, arith, length, settled, stored_pages, subst, superblock_at_home, superblock_facts, superblock_for, sym, Registered, refl, ◌≤◌}
use Rattle.trio_ctl.proofs.Views.{state_is}
use Rattle.trio_ctl.proofs.AtHome.{at_home, same_settled, state_at_home, writer_is}
use Rattle.trio_ctl.proofs.Storing.{stored_count, stored_tables, stored_verified, tells, tells_alike}
use Rattle.trio_ctl.proofs.Seen.{kept_is, looked_more, state_still}
use Rattle.trio_ctl.proofs.Granting.{controlled_still}
use Rattle.trio_ctl.proofs.registry.Registry.image.Goals as goal

pub returns-in-Some-clause-answer : goal.returns-in-Some-clause-answer
returns-in-Some-clause-answer c =
    let s = c.self.inside in
    rw (← (state_is c.self.view_is))
    (sym (writer_is s.store s.first_core s.grants s.files.items s.libs.items s.history s.begun.items c.self.invariant) ∙ sym c.writer.ensures ∙ c.in-Some.is)

pub of-requires : goal.of-requires
of-requires c =
    let s = c.self.inside in
    let none = sym c.writer.ensures ∙ c.in_default.is in
    let k = at_home s.store s.first_core s.grants s.files.items s.libs.items s.history s.begun.items c.self.invariant none in
    let made = c.in-Ok.ensures in
    let sizes = c.superblock-superblock.ensures ∙ ap (λ (v : State). superblock_for v.home.core) (sym (state_is c.self.view_is)) in
    let laid = made.pages ∙ ap (λ (x : Superblock). stored_pages x s.store.home.pages s.store.rows s.store.owners) sizes in
    omega (arith, ap length laid, stored_count (superblock_at_home s.store s.first_core) s.store.home.pages s.store.rows s.store.owners s.store.allotments s.libs.items s.history.made k made.shadow made.owner, superblock_facts (superblock_at_home s.store s.first_core) k.fits)

pub of-requires-2 : goal.of-requires-2
of-requires-2 c =
    let s = c.self.inside in
    let none = sym c.writer.ensures ∙ c.in_default.is in
    let k = at_home s.store s.first_core s.grants s.files.items s.libs.items s.history s.begun.items c.self.invariant none in
    let made = c.in-Ok.ensures in
    let sizes = c.superblock-superblock.ensures ∙ ap (λ (v : State). superblock_for v.home.core) (sym (state_is c.self.view_is)) in
    let laid = made.pages ∙ ap (λ (x : Superblock). stored_pages x s.store.home.pages s.store.rows s.store.owners) sizes in
    let pages = ap (λ (h : Pages). h.pages) c.of.ensures ∙ laid in (
      (superblock_at_home s.store s.first_core),
      subst (IsVerified (superblock_at_home s.store s.first_core)) (sym pages) (stored_verified (superblock_at_home s.store s.first_core) s.store.home.pages s.store.rows s.store.owners s.store.allotments s.libs.items s.history.made k made.shadow made.owner),
      rw (pages, c.in-Ok-copy.ensures, c.in-Ok-copy-2.ensures) (stored_tables (superblock_at_home s.store s.first_core) s.store.home.pages s.store.rows s.store.owners s.store.allotments s.libs.items s.history.made k made.shadow made.owner),
    )

pub invariant_of-self : goal.invariant_of-self
invariant_of-self c =
    let s = c.self.inside in
    controlled_still s.store s.first_core s.grants s.files.items s.libs.items s.history s.begun.items c.self.invariant _ s.grants s.files.items refl c.stored_pages.ensures.home refl refl

pub invariant_of-self-in_default-copy : goal.invariant_of-self-in_default-copy
invariant_of-self-in_default-copy c =
    let s = c.self.inside in
    controlled_still s.store s.first_core s.grants s.files.items s.libs.items s.history s.begun.items c.self.invariant _ s.grants s.files.items refl c.stored_pages.ensures.home refl refl

pub invariant_of-self-in_default-copy-2 : goal.invariant_of-self-in_default-copy-2
invariant_of-self-in_default-copy-2 c =
    let s = c.self.inside in
    controlled_still s.store s.first_core s.grants s.files.items s.libs.items s.history s.begun.items c.self.invariant _ s.grants s.files.items refl c.stored_pages.ensures.home refl refl

pub invariant_of-self-2 : goal.invariant_of-self-2
invariant_of-self-2 c =
    let s = c.self.inside in
    controlled_still s.store s.first_core s.grants s.files.items s.libs.items s.history s.begun.items c.self.invariant _ s.grants s.files.items refl c.stored_pages.ensures.home refl refl

pub returns-in_default-stored_pages : goal.returns-in_default-stored_pages
returns-in_default-stored_pages c =
    let s = c.self.inside in
    record {
      answer =
          rw (← (state_is c.self.view_is))
          (sym (writer_is s.store s.first_core s.grants s.files.items s.libs.items s.history s.begun.items c.self.invariant) ∙ sym c.writer.ensures ∙ c.in_default.is);
      image = tt;
      state = state_still s.store (record s.store { home = c.stored_pages.new.home }) s.first_core s.files.items s.files.items s.libs.items s.history.made refl c.stored_pages.ensures.home refl ∙ state_is c.self.view_is;
      floor = looked_more c.self.view_is c.stored_pages.ensures.floor;
      begun = ap (λ (x : Registered). x.begun) c.self.view_is;
      promised = ap (λ (x : Registered). x.promised) c.self.view_is;
      kept = kept_is c.self.view_is c.self.invariant.stored.kept;
    }

pub returns-in_default-copy : goal.returns-in_default-copy
returns-in_default-copy c =
    let s = c.self.inside in
    record {
      answer =
          rw (← (state_is c.self.view_is))
          (sym (writer_is s.store s.first_core s.grants s.files.items s.libs.items s.history s.begun.items c.self.invariant) ∙ sym c.writer.ensures ∙ c.in_default.is);
      image = tt;
      state = state_still s.store (record s.store { home = c.stored_pages.new.home }) s.first_core s.files.items s.files.items s.libs.items s.history.made refl c.stored_pages.ensures.home refl ∙ state_is c.self.view_is;
      floor = looked_more c.self.view_is c.stored_pages.ensures.floor;
      begun = ap (λ (x : Registered). x.begun) c.self.view_is;
      promised = ap (λ (x : Registered). x.promised) c.self.view_is;
      kept = kept_is c.self.view_is c.self.invariant.stored.kept;
    }

pub returns-in_default-copy-2 : goal.returns-in_default-copy-2
returns-in_default-copy-2 c =
    let s = c.self.inside in
    record {
      answer =
          rw (← (state_is c.self.view_is))
          (sym (writer_is s.store s.first_core s.grants s.files.items s.libs.items s.history s.begun.items c.self.invariant) ∙ sym c.writer.ensures ∙ c.in_default.is);
      image = tt;
      state = state_still s.store (record s.store { home = c.stored_pages.new.home }) s.first_core s.files.items s.files.items s.libs.items s.history.made refl c.stored_pages.ensures.home refl ∙ state_is c.self.view_is;
      floor = looked_more c.self.view_is c.stored_pages.ensures.floor;
      begun = ap (λ (x : Registered). x.begun) c.self.view_is;
      promised = ap (λ (x : Registered). x.promised) c.self.view_is;
      kept = kept_is c.self.view_is c.self.invariant.stored.kept;
    }

pub returns : goal.returns
returns c =
    let s = c.self.inside in
    let none = sym c.writer.ensures ∙ c.in_default.is in
    let k = at_home s.store s.first_core s.grants s.files.items s.libs.items s.history s.begun.items c.self.invariant none in
    let made = c.in-Ok.ensures in
    let sizes = c.superblock-superblock.ensures ∙ ap (λ (v : State). superblock_for v.home.core) (sym (state_is c.self.view_is)) in
    let laid = made.pages ∙ ap (λ (x : Superblock). stored_pages x s.store.home.pages s.store.rows s.store.owners) sizes in
    let pages = ap (λ (h : Pages). h.pages) c.of.ensures ∙ laid in
    record {
      answer =
          rw (← (state_is c.self.view_is))
          (sym (writer_is s.store s.first_core s.grants s.files.items s.libs.items s.history s.begun.items c.self.invariant) ∙ sym c.writer.ensures ∙ c.in_default.is);
      image =
          tells_alike (state_at_home (superblock_at_home s.store s.first_core) s.store.home.pages s.store.rows s.store.owners s.store.allotments s.libs.items s.history.made) _ c.of-2.result
          (same_settled s.store s.first_core s.grants s.files.items s.libs.items s.history s.begun.items c.self.invariant none ∙ ap settled (state_is c.self.view_is))
          (ap (λ (v : State). v.pages_out) (state_is c.self.view_is))
          (tells (superblock_at_home s.store s.first_core) s.store.home.pages s.store.rows s.store.owners s.store.allotments s.libs.items s.history.made k made.shadow made.owner c.of-2.result
          (c.of-2.ensures.pages ∙ pages) (λ t has. c.of-2.ensures.superblock t (rw pages has)));
      state = state_still s.store (record s.store { home = c.stored_pages.new.home }) s.first_core s.files.items s.files.items s.libs.items s.history.made refl c.stored_pages.ensures.home refl ∙ state_is c.self.view_is;
      floor = looked_more c.self.view_is c.stored_pages.ensures.floor;
      begun = ap (λ (x : Registered). x.begun) c.self.view_is;
      promised = ap (λ (x : Registered). x.promised) c.self.view_is;
      kept = kept_is c.self.view_is c.self.invariant.stored.kept;
    }

pub returns-in-Some-clause-kept : goal.returns-in-Some-clause-kept
returns-in-Some-clause-kept c = kept_is c.self.view_is c.self.invariant.stored.kept

pub stored_pages-requires-clause-order : goal.stored_pages-requires-clause-order
stored_pages-requires-clause-order c =
    let s = c.self.inside in
    let facts = superblock_facts (superblock_at_home s.store s.first_core) c.self.invariant.stored.fits in
    let sizes = c.superblock-superblock.ensures ∙ ap (λ (x : State). superblock_for x.home.core) (sym (state_is c.self.view_is)) in
    let core = facts.core in
    subst (λ (x : Superblock). x.first_core ≤ x.pages) (sym sizes) (omega (arith, core))

pub stored_pages-requires-clause-few : goal.stored_pages-requires-clause-few
stored_pages-requires-clause-few c =
    let s = c.self.inside in
    let facts = superblock_facts (superblock_at_home s.store s.first_core) c.self.invariant.stored.fits in
    let sizes = c.superblock-superblock.ensures ∙ ap (λ (x : State). superblock_for x.home.core) (sym (state_is c.self.view_is)) in
    subst (λ (x : Superblock). x.pages ≤ 8192) (sym sizes) facts.pages

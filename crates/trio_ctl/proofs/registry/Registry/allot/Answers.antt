use Rattle.trio_ctl.proofs.Words.{◌∙◌, Entries, Kept, Pages, Registered, Store, allot_fault_answer, ap, arith, free_pages, fresh_number, fresh_page, grants_in, inr, map, refl, state_of, subst, sym, take}
use Rattle.trio_allot.specs.Out.{inode_numbers, page_numbers}
use Rattle.trio_allot.proofs.Taking.{numbers_given}
use Rattle.trio_ctl.proofs.Views.{state_is}
use Rattle.trio_ctl.proofs.Allotting.{free_home, given_controlled, given_step, logged_controlled, logged_is, numbers_placed, pages_placed, raised_by_above, refused_step, still, unchanged_controlled}
use Rattle.trio_ctl.proofs.Outs.{pages_given, without_is}
use Rattle.trio_ctl.proofs.Seen.{kept_is}
use Rattle.trio_ctl.proofs.registry.Registry.allot.Goals as goal

pub take-given-requires-clause-page_count : goal.take-given-requires-clause-page_count
take-given-requires-clause-page_count c = pages_placed c.self.inside.store c.self.inside.first_core c.self.inside.grants c.self.inside.files.items c.self.inside.libs.items c.self.inside.history c.self.inside.begun.items c.self.invariant

pub take-given-requires-clause-inode_count : goal.take-given-requires-clause-inode_count
take-given-requires-clause-inode_count c = numbers_placed c.self.inside.store c.self.inside.first_core c.self.inside.grants c.self.inside.files.items c.self.inside.libs.items c.self.inside.history c.self.inside.begun.items c.self.invariant

pub take-given-requires-clause-there : goal.take-given-requires-clause-there
take-given-requires-clause-there c = free_home c.self.inside.store c.self.inside.first_core c.self.inside.grants c.self.inside.files.items c.self.inside.libs.items c.self.inside.history c.self.inside.begun.items c.self.invariant

pub invariant_of-self : goal.invariant_of-self
invariant_of-self c =
    let i = c.self.inside in
    let gone = ap (λ (h : Pages). h.pages) c.in-Ok-given.ensures.home ∙ sym (without_is (take c.args.pages (free_pages i.store.owners i.store.allotments.pages)) i.store.home.pages) in
    given_controlled c.self.inside.store c.self.inside.first_core c.self.inside.grants c.self.inside.files.items c.self.inside.libs.items c.self.inside.history c.self.inside.begun.items c.self.invariant c.args.lib c.args.pages c.args.inodes (record i.store { home = c.take-given.new.home; allotments = c.take-given.new.self }) c.enter.new.self c.in-Ok-given.ensures.enough_pages c.in-Ok-given.ensures.enough_inodes refl gone c.in-Ok-given.ensures.out c.enter.ensures

pub returns-in-Ok-given : goal.returns-in-Ok-given
returns-in-Ok-given c =
    let i = c.self.inside in
    let after = record i.store { home = c.take-given.new.home; allotments = c.take-given.new.self } in
    let gone = ap (λ (h : Pages). h.pages) c.in-Ok-given.ensures.home ∙ sym (without_is (take c.args.pages (free_pages i.store.owners i.store.allotments.pages)) i.store.home.pages) in
    let pages = ap page_numbers c.in-Ok-given.ensures.pages ∙ pages_given c.args.lib _ in
    let inodes = ap inode_numbers c.in-Ok-given.ensures.inodes ∙ numbers_given c.args.lib _ in
    record {
      step =
          rw (← (state_is c.self.view_is), pages, inodes)
          (given_step i.store i.first_core i.grants i.files.items i.libs.items i.history i.begun.items c.self.invariant c.args.lib c.args.pages c.args.inodes after c.enter.new.self c.in-Ok-given.ensures.enough_pages c.in-Ok-given.ensures.enough_inodes refl gone c.in-Ok-given.ensures.out c.enter.ensures);
      pages = c.in-Ok-given.ensures.pages ∙ ap (map (fresh_page c.args.lib)) (sym pages);
      inodes = c.in-Ok-given.ensures.inodes ∙ ap (map (fresh_number c.args.lib)) (sym inodes);
      was_kept = subst Kept (state_is c.self.view_is) c.self.invariant.stored.kept;
      kept = (given_controlled i.store i.first_core i.grants i.files.items i.libs.items i.history i.begun.items c.self.invariant c.args.lib c.args.pages c.args.inodes after c.enter.new.self c.in-Ok-given.ensures.enough_pages c.in-Ok-given.ensures.enough_inodes refl gone c.in-Ok-given.ensures.out c.enter.ensures).stored.kept;
      begun = ap (λ (x : Registered). x.begun) c.self.view_is;
      promised = ap (λ (e : Entries). e.promised) c.enter.ensures ∙ ap (λ (x : Registered). x.promised) c.self.view_is;
      floor =
          (let old = ap (λ (x : Registered). x.looked) c.self.view_is in
          let new = ap (λ (h : Pages). h.looked) c.in-Ok-given.ensures.home in
          omega (arith, old, new, raised_by_above c.args.pages c.self.inside.store.home.looked));
    }

pub invariant_of-self-in-NoPages : goal.invariant_of-self-in-NoPages
invariant_of-self-in-NoPages c =
    let kept = rw c.in-Err.is at c.take-given.ensures.kept in
    let same = still c.self.inside.store c.self.inside.first_core c.self.inside.grants c.self.inside.files.items c.self.inside.libs.items c.self.inside.history c.self.inside.begun.items c.self.invariant _ refl kept.1 kept.0 in
    logged_controlled c.self.inside.store c.self.inside.first_core c.self.inside.grants c.self.inside.files.items c.self.inside.libs.items c.self.inside.history c.self.inside.begun.items c.self.invariant _ _ same c.enter-in-NoPages.ensures

pub returns-in-NoPages-clause-step : goal.returns-in-NoPages-clause-step
returns-in-NoPages-clause-step c =
    let kept = rw c.in-Err.is at c.take-given.ensures.kept in
    let same = still c.self.inside.store c.self.inside.first_core c.self.inside.grants c.self.inside.files.items c.self.inside.libs.items c.self.inside.history c.self.inside.begun.items c.self.invariant _ refl kept.1 kept.0 in
    rw (← (state_is c.self.view_is), logged_is c.self.inside.store c.self.inside.first_core c.self.inside.grants c.self.inside.files.items c.self.inside.libs.items c.self.inside.history c.self.inside.begun.items c.self.invariant _ _ same c.enter-in-NoPages.ensures)
    (refused_step c.self.inside.store c.self.inside.first_core c.self.inside.grants c.self.inside.files.items c.self.inside.libs.items c.self.inside.history c.self.inside.begun.items c.self.invariant c.args.lib c.args.pages c.args.inodes c.in-Err.fault c.in-NoPages.is (rw c.in-Err.is at c.take-given.ensures.refused))

pub invariant_of-self-in-NoMemory : goal.invariant_of-self-in-NoMemory
invariant_of-self-in-NoMemory c =
    let kept = rw c.in-Err.is at c.take-given.ensures.kept in
    unchanged_controlled c.self.inside.store c.self.inside.first_core c.self.inside.grants c.self.inside.files.items c.self.inside.libs.items c.self.inside.history c.self.inside.begun.items c.self.invariant _ (still c.self.inside.store c.self.inside.first_core c.self.inside.grants c.self.inside.files.items c.self.inside.libs.items c.self.inside.history c.self.inside.begun.items c.self.invariant _ refl kept.1 kept.0)

pub returns-in-NoMemory-clause-step : goal.returns-in-NoMemory-clause-step
returns-in-NoMemory-clause-step c =
    let i = c.self.inside in
    let kept = rw c.in-Err.is at c.take-given.ensures.kept in
    let same = still c.self.inside.store c.self.inside.first_core c.self.inside.grants c.self.inside.files.items c.self.inside.libs.items c.self.inside.history c.self.inside.begun.items c.self.invariant _ refl kept.1 kept.0 in
    inr (refl, ap allot_fault_answer c.in-NoMemory.is, ap (λ (t : Store). state_of t i.first_core (grants_in i.files.items) i.libs.items i.history.made) same ∙ state_is c.self.view_is)

pub returns-in_default-clause-was_kept : goal.returns-in_default-clause-was_kept
returns-in_default-clause-was_kept c = kept_is c.self.view_is c.self.invariant.stored.kept

pub returns-in_default-clause-kept : goal.returns-in_default-clause-kept
returns-in_default-clause-kept c = kept_is c.self.view_is c.self.invariant.stored.kept

pub returns-in-NoPages-clause-was_kept : goal.returns-in-NoPages-clause-was_kept
returns-in-NoPages-clause-was_kept c = kept_is c.self.view_is c.self.invariant.stored.kept

pub returns-in-NoMemory-clause-was_kept : goal.returns-in-NoMemory-clause-was_kept
returns-in-NoMemory-clause-was_kept c = kept_is c.self.view_is c.self.invariant.stored.kept

pub returns-in-NoPages-clause-kept : goal.returns-in-NoPages-clause-kept
returns-in-NoPages-clause-kept c =
    let i = c.self.inside in
    let kept = rw c.in-Err.is at c.take-given.ensures.kept in
    let after = record i.store { home = c.take-given.new.home; allotments = c.take-given.new.self } in
    let same = still i.store i.first_core i.grants i.files.items i.libs.items i.history i.begun.items c.self.invariant after refl kept.1 kept.0 in
    (logged_controlled i.store i.first_core i.grants i.files.items i.libs.items i.history i.begun.items c.self.invariant after _ same c.enter-in-NoPages.ensures).stored.kept

pub returns-in-NoMemory-clause-kept : goal.returns-in-NoMemory-clause-kept
returns-in-NoMemory-clause-kept c =
    let i = c.self.inside in
    let kept = rw c.in-Err.is at c.take-given.ensures.kept in
    let after = record i.store { home = c.take-given.new.home; allotments = c.take-given.new.self } in
    (unchanged_controlled i.store i.first_core i.grants i.files.items i.libs.items i.history i.begun.items c.self.invariant after (still i.store i.first_core i.grants i.files.items i.libs.items i.history i.begun.items c.self.invariant after refl kept.1 kept.0)).stored.kept

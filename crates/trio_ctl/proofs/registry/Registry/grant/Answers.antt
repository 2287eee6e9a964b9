use Rattle.trio_ctl.proofs.Words.{◌∙◌, ◌≡◌, Grant, Hold, Kept, Read, Some, State, Write, ap, as_row, option_map, row_at, step_kept, subst, sym, grant_answer, GrantKind, Step}
use Rattle.trio_ctl.proofs.Views.{state_is}
use Rattle.trio_ctl.proofs.Granting.{denied_step, kept_either, where_refused}
use Rattle.trio_ctl.proofs.Seen.{kept_is}
use Rattle.trio_ctl.proofs.registry.Registry.grant.Goals as goal

pub returns-in_default-clause-kept : goal.returns-in_default-clause-kept
returns-in_default-clause-kept c =
    kept_either c.args.self.now.state c.log_refusal.new.self.state _ _ (subst Kept (state_is c.self.view_is) c.self.invariant.stored.kept) c.log_refusal.ensures.answer

pub returns-in-Some-denial-clause-kept : goal.returns-in-Some-denial-clause-kept
returns-in-Some-denial-clause-kept c =
    kept_either c.args.self.now.state c.log_refusal-in-Some-denial.new.self.state _ _ (subst Kept (state_is c.self.view_is) c.self.invariant.stored.kept) c.log_refusal-in-Some-denial.ensures.answer

pub returns-in-Read-clause-kept : goal.returns-in-Read-clause-kept
returns-in-Read-clause-kept c =
    step_kept c.args.self.now.state c.lend_copies.new.self.state (Grant c.args.lib.0 c.args.ino Read) _ (subst Kept (state_is c.self.view_is) c.self.invariant.stored.kept) tt c.lend_copies.ensures.step

pub returns-in-Write-clause-kept : goal.returns-in-Write-clause-kept
returns-in-Write-clause-kept c =
    step_kept c.args.self.now.state c.lend_file.new.self.state (Grant c.args.lib.0 c.args.ino Write) _ (subst Kept (state_is c.self.view_is) c.self.invariant.stored.kept) tt c.lend_file.ensures.step

pub returns-in-Hold-clause-kept : goal.returns-in-Hold-clause-kept
returns-in-Hold-clause-kept c =
    step_kept c.args.self.now.state c.lend_hold.new.self.state (Grant c.args.lib.0 c.args.ino Hold) _ (subst Kept (state_is c.self.view_is) c.self.invariant.stored.kept) tt c.lend_hold.ensures.step

pub returns-in-Some-denial-clause-step : goal.returns-in-Some-denial-clause-step
returns-in-Some-denial-clause-step c =
    let r = as_row c.in-Some.row in
    let live = subst (λ (v : State). row_at v.home c.args.ino ≡ Some r) (state_is c.self.view_is) (sym c.row.ensures ∙ ap (option_map as_row) c.in-Some.is) in
    denied_step c.args.self.now.state c.args.lib.0 c.args.ino c.args.kind r c.in-Some-denial.fault c.log_refusal-in-Some-denial.result c.log_refusal-in-Some-denial.new.self.state live (sym c.denial.ensures ∙ c.in-Some-denial.is) c.log_refusal-in-Some-denial.ensures.answer

pub returns-in-Write-clause-unpromised : goal.returns-in-Write-clause-unpromised
returns-in-Write-clause-unpromised c = where_refused c.lend_file.result c.lend_file.ensures.promised

pub returns-in-Hold-clause-unpromised : goal.returns-in-Hold-clause-unpromised
returns-in-Hold-clause-unpromised c = where_refused c.lend_hold.result c.lend_hold.ensures.promised

pub returns-in_default-clause-was_kept : goal.returns-in_default-clause-was_kept
returns-in_default-clause-was_kept c = kept_is c.self.view_is c.self.invariant.stored.kept

pub returns-in-Some-denial-clause-was_kept : goal.returns-in-Some-denial-clause-was_kept
returns-in-Some-denial-clause-was_kept c = kept_is c.self.view_is c.self.invariant.stored.kept

pub returns-in-Read-clause-was_kept : goal.returns-in-Read-clause-was_kept
returns-in-Read-clause-was_kept c = kept_is c.self.view_is c.self.invariant.stored.kept

pub returns-in-Write-clause-was_kept : goal.returns-in-Write-clause-was_kept
returns-in-Write-clause-was_kept c = kept_is c.self.view_is c.self.invariant.stored.kept

pub returns-in-Hold-clause-was_kept : goal.returns-in-Hold-clause-was_kept
returns-in-Hold-clause-was_kept c = kept_is c.self.view_is c.self.invariant.stored.kept

pub returns-in-Read-clause-step : goal.returns-in-Read-clause-step
returns-in-Read-clause-step c =
    subst (λ (k : GrantKind). Step c.args.self.now.state (Grant c.args.lib.0 c.args.ino k) (grant_answer c.lend_copies.result) c.lend_copies.new.self.state) (sym c.in-Read.is) c.lend_copies.ensures.step

pub returns-in-Write-clause-step : goal.returns-in-Write-clause-step
returns-in-Write-clause-step c =
    subst (λ (k : GrantKind). Step c.args.self.now.state (Grant c.args.lib.0 c.args.ino k) (grant_answer c.lend_file.result) c.lend_file.new.self.state) (sym c.in-Write.is) c.lend_file.ensures.step

pub returns-in-Hold-clause-step : goal.returns-in-Hold-clause-step
returns-in-Hold-clause-step c =
    subst (λ (k : GrantKind). Step c.args.self.now.state (Grant c.args.lib.0 c.args.ino k) (grant_answer c.lend_hold.result) c.lend_hold.new.self.state) (sym c.in-Hold.is) c.lend_hold.ensures.step

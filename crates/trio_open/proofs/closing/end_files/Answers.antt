use Rattle.trio_open.proofs.Words.{◌∙◌, ◌≡◌, Bool, Opened, ap, bundle_in, filter, is_in_bundle, keyed, map, rules, sym}
use Rattle.std.specs.Prelude.{not}
use Rattle.std.proofs.lemmas.Fn.{filter_same}
use Rattle.trio_open.proofs.closing.end_files.Goals as goal

pub returns-clause-files : goal.returns-clause-files
returns-clause-files c = filter_same _ _ _ (λ x b f' k. search rules) _ _ c.retain.ensures.filtered

pub returns-clause-table : goal.returns-clause-table
returns-clause-table c =
    let stays : Opened → Bool = λ o. not (is_in_bundle c.args.lib.0 (bundle_in c.args.case.now.bundle) o.grant) in
    let files : c.retain.new.self.items ≡ filter stays c.args.files.now.items = filter_same _ _ _ (λ x b f' k. search rules) _ _ c.retain.ensures.filtered in
    c.end_grants.ensures ∙ ap (λ fs. map keyed (filter stays fs)) c.deref.ensures.value ∙ ap (map keyed) (sym files)

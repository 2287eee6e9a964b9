use Rattle.trio_app.proofs.Words.{◌≡◌, All-contains_itself, rules, texts_of}
use Rattle.trio_app.proofs.tests.sure.ends_surely.Goals as goal

pub sure_main-end-requires : goal.sure_main-end-requires
sure_main-end-requires c =
    let served : texts_of c.fill_sure.new.files.names.items ≡ texts_of c.deref-2.result.now = search rules in
    rw served (All-contains_itself (texts_of c.deref-2.result.now))

use Rattle.trio_survey.proofs.Words.{◌++◌, ◌+◌, ◌∙◌, ◌∷◌, ◌≡◌, DirEntry, Listed, None, Some, [], ap, arith, cond, drop, entry_seen, map, map-append, place_of, sym, take, take-append-drop}
use Rattle.trio_survey.specs.OldVersion.{first_link}
use Rattle.trio_survey.proofs.Naming.{IsAt, taken}
use Rattle.trio_survey.proofs.OldFiles.{first_link-none, first_link-some}
use Rattle.trio_survey.proofs.old.link_among.Goals as goal

pub loop-entry-preserved : goal.loop-entry-preserved
loop-entry-preserved c = λ names.
    let entries = c.args.entries.now in
    let i = c.loop-entry.entry-index in
    let x : DirEntry = c.entry-item.result in
    let at : IsAt entries i x = (omega arith, c.entry-item.is) in
    let no_link = sym c.is_link.ensures ∙ c.if-is_link.false in
    let one : first_link (entry_seen names x ∷ []) ≡ None = ap (λ b. cond b (Some (place_of (entry_seen names x))) None) no_link in
    rw (taken names entries i x at) (first_link-none (map (entry_seen names) (take i entries)) (entry_seen names x ∷ []) (c.loop-entry.invariant names) ∙ one)

pub returns-then-is_link : goal.returns-then-is_link
returns-then-is_link c = λ names.
    let entries = c.args.entries.now in
    let i = c.loop-entry.entry-index in
    let x : DirEntry = c.entry-item.result in
    let l : Listed = entry_seen names x in
    let at : IsAt entries i x = (omega arith, c.entry-item.is) in
    let link = sym c.is_link.ensures ∙ c.if-is_link.true in
    let before = map (entry_seen names) (take i entries) in
    let rest = map (entry_seen names) (drop (i + 1) entries) in
    let one : first_link (l ∷ []) ≡ Some (place_of l) = ap (λ b. cond b (Some (place_of l)) None) link in
    let more : first_link (before ++ l ∷ []) ≡ Some (place_of l) = first_link-none before (l ∷ []) (c.loop-entry.invariant names) ∙ one in
    let split : map (entry_seen names) entries ≡ (before ++ l ∷ []) ++ rest =
    ap (map (entry_seen names)) (sym (take-append-drop (i + 1) entries)) ∙ map-append (entry_seen names) (take (i + 1) entries) (drop (i + 1) entries) ∙ ap (λ ls. ls ++ rest) (taken names entries i x at) in
    rw c.place_of.ensures (sym (ap first_link split ∙ first_link-some (before ++ l ∷ []) rest (place_of l) more))

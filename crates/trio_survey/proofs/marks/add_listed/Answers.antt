use Rattle.trio_survey.proofs.Words.{◌++◌, ◌<◌, ◌∙◌, ◌≡◌, DirEntry, all_below, append_assoc, are_marked, arith, entry_seen, false, get_or_read, length, map, map_push, met_seen, pick_of, refl, rules, subst, sym, take, take_all, true, vec_len}
use Rattle.trio_survey.proofs.Adding.{grows_again, grows_first, grows_known, entry_below}
use Rattle.trio_survey.proofs.Naming.{IsAt, taken}
use Rattle.trio_survey.proofs.marks.add_listed.Goals as goal
use Rattle.trio_survey.proofs.marks.add_listed.Goals.{then-index, else-index+in_ok-push}

pub index-requires : goal.index-requires
index-requires c =
    let es = c.args.entries.now in
    let i = c.loop-listed.listed-index in
    omega (arith, entry_below (vec_len c.args.marks.now) es i (c.listed-item.result) (omega arith) (sym c.listed-item.is) c.requires)

pub index_mut-requires : goal.index_mut-requires
index_mut-requires c =
    let es = c.args.entries.now in
    let i = c.loop-listed.listed-index in
    omega (arith, entry_below (vec_len c.args.marks.now) es i (c.listed-item.result) (omega arith) (sym c.listed-item.is) c.requires)

pub loop-listed-preserved : goal.loop-listed-preserved
loop-listed-preserved c =
    let entries = c.args.entries.now in
    let turn = c.loop-listed in
    let i = turn.listed-index in
    let x : DirEntry = c.listed-item.result in
    let at : IsAt entries i x = (omega arith, c.listed-item.is) in
    let below : x.ino < length turn.marks.items =
    omega (arith, entry_below (vec_len c.args.marks.now) entries i x (omega arith) (sym at.1) c.requires) in
    let was = sym (get_or_read turn.marks.items x.ino c.index.result.now below c.index.ensures false) in
    let files = map met_seen turn.files.items in
    let pick = pick_of c.args.picks.now in
    elim c.if-index.branch [
      | then-index w ↦
          rw (w.files-is, w.marks-is, w.repeated-is, w.or-repeated.ensures, w.place_of-then-index.ensures) (record {
            len = turn.invariant.len;
            grows = λ names old before h.
                let es = before ++ map (entry_seen names) (take i entries) in
                rw (taken names entries i x at, ← append_assoc)
                (grows_again pick c.args.directory old files turn.marks.items turn.repeated es (entry_seen names x) (record { page = x.page; slot = x.slot }) refl below (was ∙ w.if-index.true) (turn.invariant.grows names old before h));
          })
      | else-index+in_ok-push w ↦
          rw (w.files-is, w.marks-is, w.repeated-is, w.in_ok-push.ensures.items, map_push met_seen, w.body.ensures) (record {
            len = turn.invariant.len;
            grows = λ names old before h.
                let es = before ++ map (entry_seen names) (take i entries) in
                rw (taken names entries i x at, ← append_assoc)
                (grows_first pick c.args.directory old files turn.marks.items turn.repeated es (entry_seen names x) below (was ∙ w.if-index.false) (turn.invariant.grows names old before h));
          })
    ]

pub returns-clause-grows : goal.returns-clause-grows
returns-clause-grows c = λ names old before h.
    let all : take c.loop-listed.listed-index c.args.entries.now ≡ c.args.entries.now = take_all c.loop-listed.listed-index c.args.entries.now (omega arith) in
    rw all at (c.loop-listed.invariant.grows names old before h)

pub returns-then-are_marked-clause-grows : goal.returns-then-are_marked-clause-grows
returns-then-are_marked-clause-grows c = λ names old before h.
    let entries = c.args.entries.now in
    let marks = c.args.marks.now.items in
    let some : 0 < length entries = search rules in
    let count : vec_len c.args.marks.now ≡ length marks = omega arith in
    let fit : all_below (length marks) (map (λ (l : DirEntry). l.ino) entries) ≡ true = subst (λ n. all_below n (map (λ (l : DirEntry). l.ino) entries) ≡ true) count c.requires in
    let known : are_marked marks entries ≡ true = sym c.are_marked.ensures ∙ c.if-are_marked.true in
    rw (c.or.ensures, c.place_of.ensures)
    (grows_known (pick_of c.args.picks.now) c.args.directory old (map met_seen c.args.files.now.items) marks c.args.repeated names before entries c.index-entries-0.result some c.index-entries-0.is fit known h)

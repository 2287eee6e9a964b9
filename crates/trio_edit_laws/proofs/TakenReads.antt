-- Read leases that a session takes leave it able to go on.
use Rattle.trio_edit_laws.proofs.Words.{◌++◌, ◌∙◌, ◌∷◌, ◌≡◌, DeskSeen, HandsInAll, In, In-cases, IsFreshLease, IsInOrder, IsLeftAlone, IsOn, IsView, JudgesSame, LibNo, LibOut, List, MayEdit, Nodes, None, Option, Parcel, Row, SessionSeen, Shown, ShowsTrees, Sizes, Takes, TookMore, [], and_from, ap, are_new, are_new-append, eqb, eqb-true, files_out, in_hand, inl, inr, made_file, map, map-append, new_beside, refl, subst, sym, true, with_lease, ℕ}
use Rattle.trio_lease.specs.declared.lease.Lease.TheVariants.{Read}
use Rattle.trio_laws.proofs.session.TakenMore.{takes_reads}
use Rattle.trio_edit_laws.specs.TakingLaws.{KeepsReads}
use Rattle.trio_edit_laws.proofs.Shown.{desk_after, order_now}
use Rattle.trio_edit_laws.proofs.HandsIn.{hands_in, sound}
use Rattle.trio_edit_laws.proofs.Fresh.{held_out, read_out, written_out}
use Rattle.trio_edit_laws.proofs.Taken.{HasMadeOf, find_none, unmade, entries_now, entries_taken, held_now, made_now, made_taken, shows_now}
use Rattle.trio_edit_laws.proofs.Whole.{shows_after}

-- further read leases, none on one file twice, on files that are neither written nor held, on a desk that has other things out
pub took_reads : (desk : DeskSeen) (out' : LibOut) (s : SessionSeen) (more : List Shown) → MayEdit desk s → ((f : Shown) → In f more → made_file s f.ino ≡ None)
    → are_new [] (map (λ f. f.ino) (s.reads ++ more)) ≡ true → ((f : Shown) → In f more → IsLeftAlone (in_hand s) f.ino) → IsOn (record desk { out = out' }) (record s { reads = s.reads ++ more })
    → TookMore (record desk { out = out' }) s (record s { reads = s.reads ++ more })
took_reads desk out' s more may not_made once alone on =
    let now : DeskSeen = record desk { out = out' } in
    let taken : SessionSeen = record s { reads = s.reads ++ more } in
    let order : IsInOrder now (in_hand s) = order_now desk out' (in_hand s) may.order in
    let shows : ShowsTrees now s = shows_now desk out' s may.shows in
    let takes : Takes now (in_hand s) (in_hand taken) = takes_reads now (in_hand s) more order in
    let was = sound desk.out s.parcel s.reads may.all in
    let has : HasMadeOf s taken =
    record { made = refl; cleared = refl; numbers = λ n i. i; unlent = λ mf i u. record { written = u.written; held = u.held; read = find_none (λ (f : Shown). eqb f.ino mf.ino) s.reads more u.read (λ f j e. unmade s f.ino (not_made f j) mf i (sym (eqb-true f.ino mf.ino e))) }; page = λ mf i. refl; opens = λ n kind o. o; chain = λ n kind o. refl } in
    let judges : (nodes nodes' : Nodes) (rows : List (Option Row)) → IsView now (in_hand s) (in_hand taken) nodes nodes' rows → JudgesSame now (in_hand s) (in_hand taken) nodes =
    λ nodes nodes' rows v. record { stays = λ x new i. i; made = λ x new i. (i, new); read = λ x file i reads. inl (record { met = x; judged = i; number = refl; reads = reads }) } in
    record {
      takes = takes;
      may = record {
        on = on;
        all =
            hands_in now taken on (record {
              files = was.files;
              whole = was.whole;
              files_once = was.files_once;
              holds_once = was.holds_once;
              pages_once = was.pages_once;
              numbers_once = was.numbers_once;
              reads_once = once;
            });
        given = record { holds = may.given.holds; numbers = may.given.numbers };
        order = takes.order;
        shows = shows_after now s taken (λ nodes. nodes) shows takes;
        alone = λ f i. elim (In-cases f s.reads more i) [ inl old ↦ may.alone f old | inr new ↦ alone f new ];
        beside = may.beside;
        chains = λ n kind o. (let r = may.chains n kind o in record { body = r.body; is = r.is; count = r.count; head = r.head; named = r.named });
        own = may.own;
        once = may.once;
        placed = may.placed;
        made = made_taken now s taken order shows takes has judges (made_now desk out' s may.made);
        entries = entries_taken now s taken order shows takes has judges (entries_now desk out' s may.entries);
        held = λ h nodes rows i possible. held_now desk out' s may.held h nodes rows i (takes.more nodes rows possible);
      };
    }

-- a lease that a desk gives is on a file that none in hand is on
fresh_read : (lib : LibNo) (ino : ℕ) (sizes : Sizes) (out : LibOut) (b : Parcel) (back : List Shown) (f : Shown)
    → HandsInAll out b back → IsFreshLease lib ino sizes out (Read f) → are_new [] (map (λ x. x.ino) (back ++ f ∷ [])) ≡ true
fresh_read lib ino sizes out b back f all fresh =
    let numbers : List ℕ = map (λ (x : Shown). x.ino) back in
    let none : In f.ino numbers → ⊥ = λ i. fresh.new (subst (λ n. In n (files_out out)) fresh.is.1 (read_out out b back all f.ino i)) in
    ap (are_new []) (map-append (λ (x : Shown). x.ino) back (f ∷ []))
    ∙ are_new-append [] numbers (f.ino ∷ [])
    ∙ and_from (are_new [] numbers) (are_new numbers (f.ino ∷ [])) all.reads_once
    (new_beside numbers (f.ino ∷ []) refl (λ p i j. elim i [ inl e ↦ none (subst (λ n. In n numbers) e j) | inr no' ↦ no' ]))

pub keeps_reads : KeepsReads
keeps_reads desk desk' s ino kind f may not_made fresh seen on =
    let e = desk_after desk desk' _ _ seen in
    let alone : (x : Shown) → In x (f ∷ []) → IsLeftAlone (in_hand s) x.ino =
    λ x i. elim i [
      | inr no' ↦ absurd no'
      | inl same ↦ subst (λ (y : Shown). IsLeftAlone (in_hand s) y.ino) (sym same) (
        λ k. fresh.new (subst (λ n. In n (files_out desk.out)) fresh.is.1 (written_out desk.out s.parcel s.reads may.all f.ino k)),
        λ k. fresh.new (subst (λ n. In n (files_out desk.out)) fresh.is.1 (held_out desk.out s.parcel s.reads may.all f.ino k)),
      )
    ] in
    subst (λ d. TookMore d s (with_lease s (Read f))) (sym e)
    (took_reads desk desk'.out s (f ∷ []) may
    (λ x i. elim i [ inl same ↦ ap (λ (y : Shown). made_file s y.ino) same ∙ ap (made_file s) fresh.is.1 ∙ not_made | inr none ↦ absurd none ])
    (fresh_read desk.lib ino desk.sizes desk.out s.parcel s.reads f may.all fresh) alone
    (subst (λ d. IsOn d (with_lease s (Read f))) e on))

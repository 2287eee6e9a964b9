-- A hold that a session takes leaves it able to go on.
use Rattle.trio_edit_laws.proofs.Words.{◌++◌, ◌∙◌, ◌∷◌, ◌≡◌, AboveIsOpen, ArePossible, Case, ComesToShown, DeskSeen, HoldParts, In, In-cases, In-find, In-flat, In-left, In-map, IsFreshLease, IsInOrder, IsLeftAlone, IsListedNow, IsOn, IsView, JudgesSame, LibOut, List, Listed, MayEdit, Met, Naming, Nodes, None, Option, Parcel, Row, SessionSeen, Shown, ShowsTrees, Some, Takes, TakesMore, TookMore, [], and_from, ap, are_new, are_new-append, body_at, body_of, case_as_stands, eq-eqb, eqb, eqb-true, file_in, file_numbers, files_out, hold_numbers, in_hand, inl, inr, is_some, judged_files, made_file, map-append, naming_of, namings_in, new_beside, possible_with_less, refl, subst, sym, true, with_lease, ℕ}
use Rattle.trio_lease.specs.declared.lease.Lease.TheVariants.{Hold}
use Rattle.trio_edit_laws.proofs.session.Fresh.{fresh_is_free}
use Rattle.trio_edit_laws.proofs.session.JudgedTakings.{judged_after_hold}
use Rattle.trio_laws.proofs.session.TakenHold.{takes_hold}
use Rattle.trio_session.specs.Layout.{page_in}
use Rattle.trio_edit_laws.specs.TakingLaws.{IsListedBy, KeepsHold}
use Rattle.trio_edit_laws.proofs.Fresh.{read_out}
use Rattle.trio_edit_laws.proofs.HandsIn.{hands_in, sound}
use Rattle.trio_edit_laws.proofs.Keeps.{place_of_open}
use Rattle.trio_edit_laws.proofs.MorePages.{reads_by_more}
use Rattle.trio_edit_laws.proofs.Opens.{open_chained}
use Rattle.trio_edit_laws.proofs.Shown.{comes_now, desk_after, order_now, possible_before}
use Rattle.trio_edit_laws.proofs.Taken.{HasMadeOf, body-taken, find_none, unmade, chains_now, entries_now, entries_taken, held_now, made_now, made_taken, shows_now}
use Rattle.trio_edit_laws.proofs.Whole.{shows_after}

-- where a judged directory lists a number, an entry names it
named : (desk : DeskSeen) (s : SessionSeen) (n : ℕ) → IsListedBy desk s n → is_some (naming_of (case_as_stands desk (in_hand s)) n) ≡ true
named desk s n w =
    let c : Case = case_as_stands desk (in_hand s) in
    let at : Listed → Naming = λ l. record { directory = w.directory.ino; listed = l } in
    let here : In (at w.listed) (namings_in w.directory.ino (file_in c w.directory)) =
    subst (λ q. In (at w.listed) (namings_in w.directory.ino q)) (sym w.reads) (In-map at w.listed w.file.entries w.among) in
    let f = In-find (λ (g : Naming). eqb g.listed.entry.ino n) _ (at w.listed) (In-flat (λ (m : Met). namings_in m.ino (file_in c m)) w.directory (at w.listed) (judged_files c) w.judged here) (eq-eqb w.listed.entry.ino n w.number) in
    ap is_some f.1

-- holds are no pages
page_in-held : (b : Parcel) (holds : List HoldParts) (n : ℕ) → page_in (record b { holds = holds }) n ≡ page_in b n
unfolding page_in
page_in-held b holds n = refl

module _ (desk : DeskSeen) (out' : LibOut) (s : SessionSeen) (ino : ℕ) (k : HoldParts) (may : MayEdit desk s) (not_made : made_file s ino ≡ None) (comes : ComesToShown desk s.parcel s.reads s.calls) (listed : IsListedNow desk s k.ino)
    (above : (nodes : Nodes) (rows : List (Option Row)) → ArePossible desk s.parcel s.reads nodes rows → AboveIsOpen nodes desk.creds k.ino)
    (fresh : IsFreshLease desk.lib ino desk.sizes desk.out (Hold k)) (on : IsOn (record desk { out = out' }) (with_lease s (Hold k))) where
  abbrev now : DeskSeen
  now = record desk { out = out' }

  abbrev taken : SessionSeen
  taken = with_lease s (Hold k)

  order : IsInOrder (record desk { out = out' }) (in_hand s)
  order = order_now desk out' (in_hand s) may.order

  shows : ShowsTrees (record desk { out = out' }) s
  shows = shows_now desk out' s may.shows

  free : (In k.ino (hold_numbers s.parcel.holds) → ⊥) × (In k.ino (file_numbers s.parcel.writes) → ⊥)
  free = fresh_is_free desk (in_hand s) ino k may.all.given fresh

  less : TakesMore (record desk { out = out' }) (in_hand s) (in_hand (with_lease s (Hold k)))
  less = possible_with_less now s.parcel taken.parcel s.reads s.reads (λ f i. i) (λ x i. In-left x s.parcel.holds (k ∷ []) i) (λ n i. i)

  law : (nodes : Nodes) (rows : List (Option Row)) → ArePossible (record desk { out = out' }) taken.parcel taken.reads nodes rows → Takes (record desk { out = out' }) (in_hand s) (in_hand taken)
  law nodes rows possible =
      takes_hold now (in_hand s) s.calls k order (comes_now desk out' (in_hand s) s.calls comes) free.0 free.1
      (named desk s k.ino (listed nodes rows (possible_before desk out' s.parcel s.reads nodes rows (less nodes rows possible))))

  takes : Takes (record desk { out = out' }) (in_hand s) (in_hand (with_lease s (Hold k)))
  takes = record {
    more = less;
    shows = λ nodes nodes' rows m. (law nodes rows m.possible).shows nodes nodes' rows m;
    tree = λ nodes nodes' rows m. m.tree;
    order = record { among = λ nodes rows p. (law nodes rows p).order.among nodes rows p; pages = order.pages; files = order.files };
  }

  has : HasMadeOf s (with_lease s (Hold k))
  has = record {
    made = refl;
    cleared = refl;
    numbers = λ n i. i;
    unlent = λ mf i u. record {
      written = u.written;
      held = find_none (λ (x : HoldParts). eqb x.ino mf.ino) s.parcel.holds (k ∷ []) u.held
          (λ x j e. elim j [ inl same ↦ unmade s ino not_made mf i (sym (eqb-true x.ino mf.ino e) ∙ ap (λ (y : HoldParts). y.ino) same ∙ fresh.is.1) | inr none ↦ none ]);
      read = u.read;
    };
    page = λ mf i. page_in-held s.parcel (s.parcel.holds ++ k ∷ []) mf.page;
    opens = λ n kind o. o;
    chain = λ n kind o. refl;
  }

  judges : (nodes nodes' : Nodes) (rows : List (Option Row)) → IsView (record desk { out = out' }) (in_hand s) (in_hand taken) nodes nodes' rows → JudgesSame (record desk { out = out' }) (in_hand s) (in_hand taken) nodes
  judges nodes nodes' rows v = judged_after_hold now (in_hand s) k nodes

  holds_once : are_new [] (hold_numbers (s.parcel.holds ++ k ∷ [])) ≡ true
  holds_once =
      let numbers : List ℕ = hold_numbers s.parcel.holds in
      ap (are_new []) (map-append (λ (h : HoldParts). h.ino) s.parcel.holds (k ∷ []))
      ∙ are_new-append [] numbers (k.ino ∷ [])
      ∙ and_from (are_new [] numbers) (are_new numbers (k.ino ∷ [])) may.all.given.holds_once
      (new_beside numbers (k.ino ∷ []) refl (λ p i j. elim i [ inl e ↦ free.0 (subst (λ n. In n numbers) e j) | inr no' ↦ no' ]))

  -- a file that is read isn't held
  alone : (f : Shown) → In f s.reads → IsLeftAlone (in_hand taken) f.ino
  alone f i =
      let a = may.alone f i in (
        a.0,
        λ j. elim (In-cases f.ino (hold_numbers s.parcel.holds) (k.ino ∷ []) (subst (λ l. In f.ino l) (map-append (λ (h : HoldParts). h.ino) s.parcel.holds (k ∷ [])) j)) [
          | inl old ↦ a.1 old
          | inr own ↦ elim own [
            | inr no' ↦ no'
            | inl same ↦
                fresh.new (subst (λ n. In n (files_out desk.out)) (same ∙ fresh.is.1) (read_out desk.out s.parcel s.reads may.all f.ino (In-map (λ (x : Shown). x.ino) f s.reads i)))
          ]
        ],
      )

  took_hold : TookMore (record desk { out = out' }) s (with_lease s (Hold k))
  took_hold =
      let was = sound desk.out s.parcel s.reads may.all in
      record {
        takes = takes;
        may = record {
          on = on;
          all =
              hands_in now taken on (record {
                files = was.files;
                whole = was.whole;
                files_once = was.files_once;
                holds_once = holds_once;
                pages_once = was.pages_once;
                numbers_once = was.numbers_once;
                reads_once = was.reads_once;
              });
          given = record {
            holds = λ h i. elim (In-cases h s.parcel.holds (k ∷ []) i) [
              | inl old ↦ may.given.holds h old
              | inr own ↦ elim own [ inl same ↦ subst (λ (x : HoldParts). body_of x.kind desk.sizes.range x.body ≡ Some (body_at x.body)) (sym same) fresh.is.2 | inr no' ↦ absurd no' ]
            ];
            numbers = may.given.numbers;
          };
          order = takes.order;
          shows = shows_after now s taken (λ nodes. nodes) shows takes;
          alone = alone;
          beside = may.beside;
          chains = λ n kind o.
              reads_by_more now s taken n kind (λ x i. i) order.pages takes.order.pages (λ page i. may.own page (open_chained s n page (place_of_open desk s n kind may o) i))
              (body-taken s taken n has (λ none. refl)) refl (chains_now desk out' s may.chains n kind o);
          own = may.own;
          once = may.once;
          placed = may.placed;
          made = made_taken now s taken order shows takes has judges (made_now desk out' s may.made);
          entries = entries_taken now s taken order shows takes has judges (entries_now desk out' s may.entries);
          held = λ h nodes rows i possible. elim (In-cases h s.parcel.holds (k ∷ []) i) [
            | inl old ↦ held_now desk out' s may.held h nodes rows old (less nodes rows possible)
            | inr own ↦ elim own [
              | inl same ↦ subst (λ (x : HoldParts). AboveIsOpen nodes desk.creds x.ino) (sym same) (above nodes rows (possible_before desk out' s.parcel s.reads nodes rows (less nodes rows possible)))
              | inr no' ↦ absurd no'
            ]
          ];
        };
      }

pub keeps_hold : KeepsHold
keeps_hold desk desk' s ino kind k may not_made comes listed above fresh seen on =
    let e = desk_after desk desk' _ _ seen in
    subst (λ d. TookMore d s (with_lease s (Hold k))) (sym e)
    (took_hold desk desk'.out s ino k may not_made comes listed above fresh (subst (λ d. IsOn d (with_lease s (Hold k))) e on))

-- What a session keeps where more was taken: of the files that it made, of the entries of its directories, and of what its desk knows.
use Rattle.trio_edit_laws.proofs.Words.{◌++◌, ◌∙◌, ◌≡◌, AboveIsOpen, AreMade, ArePossible, Bool, Chain, ChainsRead, DeskSeen, Directory, EntriesHaveRights, HoldParts, In, In-find, IsInOrder, IsInSlot, IsUnlent, IsView, JudgesSame, Kind, LibOut, List, MadeFile, Nodes, None, Option, Row, SessionSeen, Shown, ShowsTrees, Some, Takes, [], ap, are_new, arith, body_in, body_in_slot, case_as_stands, chain_in, eq-eqb, eqb, every_number, find, find-In, find-append, in_hand, inl, ino_numbers, inr, is_some, judged_files, made_file, made_met, map, open_kind, option_map_or, option_or, page_in, refl, slot_bytes, slot_of, subst, sym, true, written_file, ℕ}
use Rattle.trio_edit_laws.proofs.Shown.{possible_before}

-- ---- a desk that has other things out

module _ (desk : DeskSeen) (out' : LibOut) (s : SessionSeen) where
  pub shows_now : ShowsTrees desk s → ShowsTrees (record desk { out = out' }) s
  shows_now shows nodes rows p =
      let v = shows nodes rows (possible_before desk out' s.parcel s.reads nodes rows p) in (v.0, record { possible = p; tree = v.1.tree; shows = v.1.shows })

  pub chains_now : ChainsRead desk s → ChainsRead (record desk { out = out' }) s
  chains_now chains n kind o = let r = chains n kind o in record { body = r.body; is = r.is; count = r.count; head = r.head; named = r.named }

  pub made_now : AreMade desk s → AreMade (record desk { out = out' }) s
  made_now m = record {
    numbers = m.numbers;
    gone = m.gone;
    once = m.once;
    apart = m.apart;
    slots = m.slots;
    judged = λ nodes rows p mf i. let j = m.judged nodes rows (possible_before desk out' s.parcel s.reads nodes rows p) mf i in record { directory = j.directory; judged = j.judged };
    only = λ nodes rows p x i new. m.only nodes rows (possible_before desk out' s.parcel s.reads nodes rows p) x i new;
  }

  pub entries_now : EntriesHaveRights desk s → EntriesHaveRights (record desk { out = out' }) s
  entries_now entries nodes rows x file l p i reads j out = entries nodes rows x file l (possible_before desk out' s.parcel s.reads nodes rows p) i reads j out

  pub held_now : ((h : HoldParts) (nodes : Nodes) (rows : List (Option Row)) → In h s.parcel.holds → ArePossible desk s.parcel s.reads nodes rows → AboveIsOpen nodes desk.creds h.ino)
      → (h : HoldParts) (nodes : Nodes) (rows : List (Option Row)) → In h s.parcel.holds → ArePossible (record desk { out = out' }) s.parcel s.reads nodes rows → AboveIsOpen nodes desk.creds h.ino
  held_now held h nodes rows i p = held h nodes rows i (possible_before desk out' s.parcel s.reads nodes rows p)

-- ---- more in hand

-- none is found where more stand behind, none of which passes
pub find_none : {X : Type 0} (p : X → Bool) (xs more : List X) → find p xs ≡ None → ((x : X) → In x more → p x ≡ true → ⊥) → find p (xs ++ more) ≡ None
find_none {X} p xs more none out = find-append p xs more ∙ ap (λ q. option_or q (find p more)) none ∙ by (find p more) refl
  where
    by : (q : Option X) → find p more ≡ q → find p more ≡ None
    by None e = e
    by (Some x) e = (let f = find-In p more x e in absurd (out x f.0 f.1))

-- no file that was made has a number that none has
pub unmade : (s : SessionSeen) (n : ℕ) → made_file s n ≡ None → (mf : MadeFile) → In mf s.made → mf.ino ≡ n → ⊥
unmade s n none mf i e =
    let f = In-find (λ (x : MadeFile). eqb x.ino n) s.made mf i (eq-eqb mf.ino n e) in
    let wrong : None ≡ Some f.0 = sym none ∙ f.1 in absurd (cc wrong)

-- the files that were made are the same, with their slots as they were; directories that were open are, by their chains
pub record HasMadeOf (s s' : SessionSeen) : Type 0 where
  pub made : s'.made ≡ s.made
  pub cleared : s'.cleared ≡ s.cleared
  pub numbers : (n : ℕ) → In n (ino_numbers s.parcel.inodes) → In n (ino_numbers s'.parcel.inodes)
  pub unlent : (mf : MadeFile) → In mf s.made → IsUnlent s mf.ino → IsUnlent s' mf.ino
  pub page : (mf : MadeFile) → In mf s.made → page_in s'.parcel mf.page ≡ page_in s.parcel mf.page
  pub opens : (n : ℕ) (kind : Kind) → open_kind s n ≡ Some kind → open_kind s' n ≡ Some kind
  pub chain : (n : ℕ) (kind : Kind) → open_kind s n ≡ Some kind → chain_in s' n ≡ chain_in s n

-- so a body is as it was where a lease's is
pub body-taken : (s s' : SessionSeen) (n : ℕ) → HasMadeOf s s'
    → (made_file s n ≡ None → option_map_or (λ (f : Shown). f.body) (written_file s' n) [] ≡ option_map_or (λ (f : Shown). f.body) (written_file s n) []) → body_in s' n ≡ body_in s n
body-taken s s' n has same = search (arith, find-In)

module _ (desk : DeskSeen) (s s' : SessionSeen) (order : IsInOrder desk (in_hand s)) (shows : ShowsTrees desk s) (takes : Takes desk (in_hand s) (in_hand s')) (has : HasMadeOf s s')
    (judges : (nodes nodes' : Nodes) (rows : List (Option Row)) → IsView desk (in_hand s) (in_hand s') nodes nodes' rows → JudgesSame desk (in_hand s) (in_hand s') nodes) where
  -- what is judged where nodes are possible
  judged_then : (nodes : Nodes) (rows : List (Option Row)) → ArePossible desk s'.parcel s'.reads nodes rows → JudgesSame desk (in_hand s) (in_hand s') nodes
  judged_then nodes rows possible =
      let was = shows nodes rows (takes.more nodes rows possible) in
      judges nodes was.0 rows (record { order = order; more = takes.more; shows = record { possible = possible; tree = was.1.tree; shows = was.1.shows } })

  there : (mf : MadeFile) → In mf s'.made → In mf s.made
  there mf i = subst (λ l. In mf l) has.made i

  slots_taken : AreMade desk s → (mf : MadeFile) → In mf s'.made → IsInSlot s' mf
  slots_taken m mf i =
      let q = m.slots mf (there mf i) in
      record {
        directory = q.directory;
        opens = has.opens q.directory Directory q.opens;
        block = subst (λ (c : Chain). In mf.page c.blocks) (sym (has.chain q.directory Directory q.opens)) q.block;
        slot = q.slot;
        entry = q.entry;
        says = ap (λ b. slot_of every_number (slot_bytes mf.slot b)) (has.page mf (there mf i)) ∙ q.says;
        number = q.number;
        kind = q.kind;
      }

  pub made_taken : AreMade desk s → AreMade desk s'
  made_taken m = record {
    numbers = λ mf i. has.numbers mf.ino (m.numbers mf (there mf i));
    gone = λ mf i. has.numbers mf.ino (m.gone mf (subst (λ l. In mf l) has.cleared i));
    once =
        ap (λ l. are_new [] (map (λ (mf : MadeFile). mf.ino) (l ++ s'.cleared))) has.made ∙ ap (λ l. are_new [] (map (λ (mf : MadeFile). mf.ino) (s.made ++ l))) has.cleared ∙ m.once;
    apart = λ mf i. has.unlent mf (there mf i) (m.apart mf (there mf i));
    slots = slots_taken m;
    judged = λ nodes rows possible mf i.
        let j = m.judged nodes rows (takes.more nodes rows possible) mf (there mf i) in
        let same : made_met s j.directory mf ≡ made_met s' j.directory mf =
        ap (λ b. record { ino = mf.ino; kind = mf.kind; parent = j.directory; page = mf.page; slot = mf.slot; body = body_in_slot mf.slot b }) (sym (has.page mf (there mf i))) in
        record {
          directory = j.directory;
          judged =
              subst (λ x. In x (judged_files (case_as_stands desk (in_hand s')))) same
              ((judged_then nodes rows possible).stays (made_met s j.directory mf) (m.numbers mf (there mf i)) j.judged);
        };
    only = λ nodes rows possible x i new.
        let w = (judged_then nodes rows possible).made x new i in
        ap (λ l. is_some (find (λ (mf : MadeFile). eqb mf.ino x.ino) l)) has.made ∙ m.only nodes rows (takes.more nodes rows possible) x w.0 w.1;
  }

  pub entries_taken : EntriesHaveRights desk s → EntriesHaveRights desk s'
  entries_taken entries nodes rows x file l possible i reads j out =
      elim ((judged_then nodes rows possible).read x file i reads) [
        | inr rights ↦ rights l j
        | inl w ↦ entries nodes rows w.met file l (takes.more nodes rows possible) w.judged w.reads j (λ k. out (has.numbers l.entry.ino k))
      ]

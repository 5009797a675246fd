-- The law over runs, by induction on the calls.
use Rattle.std.proofs.Common.{◌≡◌, ℕ, ◌+◌, ◌-◌, ◌*◌, ◌<◌, ◌≤◌, Bool, true, false, cond, not, ◌&&◌, eqb, leb, List, [], ◌∷◌, ◌++◌, length, get_or, ℤ, is_ok, Some, None, Err, Option, sym, refl, ap, ◌∙◌, subst, ⊎_elim, arith}
use mathlib.Core.Path.{subst₃}
use Rattle.std.proofs.lemmas.Nat.{mul-add-lt}
use Rattle.std.proofs.lemmas.List.{append-nil, get_or_append_left, get_or_push, get_or-replicate, length_push, length-replicate}
use Rattle.std.proofs.lemmas.Bool.{cases_eq, cases_lt, cases_order, not_from_true, ltb-false, eq-eqb, ne_eqb, lt-ltb, le-ltb, le-leb, lt-leb}
use Rattle.kinds.specs.Meaning.{Meaning, Facts}
use Rattle.ends.specs.declared.coding.Coding.{Coding}
use Rattle.ends.specs.declared.coding.Heading.{Heading}
use Rattle.ends.specs.Tasks.{Task}
use Rattle.ends.specs.declared.plane.Size.{Size}
use Rattle.ends.specs.declared.refusal.Refusal.{Refusal}
use Rattle.ends.specs.declared.refusal.Refusal.TheVariants.{Width}
use Rattle.ends.specs.Planes.{bytes, sample, blank}
use Rattle.ends.specs.Tiles.{sort_of, prediction, residual, reconstructed, code_levels, stored}
use Rattle.ends.specs.Refusals.{spent, code_rules, restart_rules, follow_rules, resume_rules, code_refusal, restart_refusal, follow_refusal}
use Rattle.ends.specs.Calls.{end_of, task_of, restart_heading, Coded, Answered, coded, restarted, followed, resumed, code_rebuilt, code_call, follow_call, resume_call}
use Rattle.ends.specs.Runs.{Call, code, restart, follow, resume, Pair, opened_alike, next, taken, by_camera, Given, unit, mark, unit_of, mark_of, gives, after, given, planes, coded_by, last_coded, Among, Proper, ProperCall, RunLaw}
use Rattle.ends.proofs.Limit.{Close, code_close, residual_long}
use Rattle.ends.proofs.Passed.{none_clear, clear_none, hit, edge_bounds}
use Rattle.ends.proofs.Rows.{length_with_tile}
use Rattle.ends.proofs.Elements.{Bytes, bytes_blank, bytes_prediction, bytes_reconstructed, bytes_with_tile, differences_residual}

-- ---- what code lets through, follow lets through at that count

same_passes : (a b : ℕ) → a ≡ b → not (eqb a b) ≡ false
same_passes a b e = not_from_true _ (eq-eqb a b e)

follow_passes : (m : Meaning) (s : Size) (k : ℕ) (plane copy : List ℕ) (c : Coding) (source : List ℕ) (room levels : List ℤ)
    → code_refusal m (end_of s k) plane c source room ≡ None → length copy ≡ bytes s → length levels ≡ m.edge * m.edge
    → follow_refusal m (end_of s k) copy (record { number = k; tag = m.tag; coding = c }) levels ≡ None
follow_passes m s k plane copy c source room levels none long many =
    let h : Heading = record { number = k; tag = m.tag; coding = c } in
    let clear = none_clear (code_rules m (end_of s k) plane c source room) none in
    let tile = clear.1.1 in
    let here = le-ltb k k (omega arith) in
    clear_none (follow_rules m (end_of s k) copy h levels)
    (same_passes _ _ long, (clear.1.0, (same_passes m.tag m.tag refl, (here, (here, (tile.0, (tile.1.0, (tile.1.1.0, (same_passes _ _ many, (tile.1.1.1.1.0, tt))))))))))

module _ (s : Size) (first : ℕ) where
  abbrev start : Pair
  start = opened_alike s first

  -- ---- what holds after a run

  -- both ends, the camera at count k, the handset at count j
  abbrev pair : (k : ℕ) (plane : List ℕ) (j : ℕ) (copy : List ℕ) → Pair
  pair k plane j copy = record { camera = end_of s k; camera_plane = plane; handset = end_of s j; handset_plane = copy }

  -- the plane held at a count, among the camera's planes in their order
  abbrev held : List (List ℕ) → ℕ → List ℕ
  held ps k = get_or ps (k - first) []

  -- what the camera gave out before count k, as the handset needs it
  record Unit-sound (k : ℕ) (ps : List (List ℕ)) (m : Meaning) (h : Heading) (levels : List ℤ) : Type 0 where
    since : first ≤ h.number
    below : h.number < k
    rebuilt : List ℤ
    rebuilt_is : m.reconstruction h.coding.qp levels ≡ Some rebuilt
    passes : (copy : List ℕ) → length copy ≡ bytes s → follow_refusal m (end_of s h.number) copy h levels ≡ None
    stores : held ps (h.number + 1) ≡ stored (task_of s m.edge h.coding) (held ps h.number) (Some rebuilt)

  record Mark-sound (k : ℕ) (ps : List (List ℕ)) (h : Heading) : Type 0 where
    since : first ≤ h.number
    below : h.number < k
    untagged : h.tag ≡ 0
    unspent : spent h.number ≡ false
    clears : held ps (h.number + 1) ≡ blank (bytes s)

  abbrev Sound : ℕ → List (List ℕ) → Given → Type 0
  Sound k ps (unit m h levels) = Unit-sound k ps m h levels
  Sound k ps (mark h) = Mark-sound k ps h

  abbrev Last : Type 0
  Last = (col row : ℕ) → Option (ℕ × ℕ)

  record Good (k : ℕ) (plane : List ℕ) (j : ℕ) (copy : List ℕ) (ps : List (List ℕ)) (out : List Given) (last : Last) : Type 0 where
    low : first ≤ j
    high : j ≤ k
    long : length plane ≡ bytes s
    copy_long : length copy ≡ bytes s
    byte : Bytes plane
    many : first + length ps ≡ k + 1
    top : held ps k ≡ plane
    same : copy ≡ held ps j
    sound : (g : Given) → Among g out → Sound k ps g
    close : (col row : ℕ) → col < s.width → row < s.height → Close s plane col row (last col row)

  record Run (cs : List Call) : Type 0 where
    k : ℕ
    plane : List ℕ
    j : ℕ
    copy : List ℕ
    is : after start cs ≡ pair k plane j copy
    good : Good k plane j copy (planes start cs) (given start cs) (last_coded start cs)

  -- ---- one call more, by what it comes to

  abbrev last_then : Call → Bool → Last → Last
  last_then c t last col row = cond t (coded_by s c col row (last col row)) (last col row)

  module _ (cs : List Call) (r : Run cs) (c : Call) where
    abbrev here : Pair
    here = pair r.k r.plane r.j r.copy

    arrive : (k : ℕ) (plane : List ℕ) (j : ℕ) (copy : List ℕ) (gs : List Given) (t : Bool)
        → next c here ≡ pair k plane j copy → gives c here ≡ gs → taken c here ≡ t
        → Good k plane j copy (planes start cs ++ cond (by_camera c && t) (plane ∷ []) []) (gs ++ given start cs) (last_then c t (last_coded start cs))
        → Run (c ∷ cs)
    arrive k plane j copy gs t e f g good = record {
      k = k;
      plane = plane;
      j = j;
      copy = copy;
      is = ap (next c) r.is ∙ e;
      good =
          let P : Pair → List Given → Bool → Type 0 = λ p gs t. Good k plane j copy (planes start cs ++ cond (by_camera c && t) (p.camera_plane ∷ []) []) (gs ++ given start cs) (last_then c t (last_coded start cs)) in
          subst₃ P (sym (ap (next c) r.is ∙ e)) (sym (ap (gives c) r.is ∙ f)) (sym (ap (taken c) r.is ∙ g)) good;
    }

    none_added : (b : Bool) (qs : List (List ℕ)) → planes start cs ++ cond (b && false) qs [] ≡ planes start cs
    none_added true qs = append-nil (planes start cs)
    none_added false qs = append-nil (planes start cs)

    -- a refused call
    stays : next c here ≡ here → gives c here ≡ [] → taken c here ≡ false → Run (c ∷ cs)
    stays e f g =
        arrive r.k r.plane r.j r.copy [] false e f g
        (subst (λ (ps : List (List ℕ)). Good r.k r.plane r.j r.copy ps (given start cs) (last_coded start cs)) (sym (none_added (by_camera c) _)) r.good)

  -- ---- a call that is taken

  module _ (k : ℕ) (plane : List ℕ) (j : ℕ) (copy : List ℕ) (ps : List (List ℕ)) (out : List Given) (last : Last) (good : Good k plane j copy ps out last) where
    held_old : (new : List ℕ) (i : ℕ) → i ≤ k → held (ps ++ new ∷ []) i ≡ held ps i
    held_old new i l = get_or_append_left ps (new ∷ []) [] (i - first) (let a = good.many in let b = good.low in let c = good.high in omega arith)

    held_new : (new : List ℕ) → held (ps ++ new ∷ []) (k + 1) ≡ new
    held_new new = get_or_push ps new [] (k + 1 - first) (let a = good.many in omega arith)

    still_sound : (new : List ℕ) (g : Given) → Sound k ps g → Sound (k + 1) (ps ++ new ∷ []) g
    still_sound new (unit m h levels) u = record {
      since = u.since;
      below = let b = u.below in omega arith;
      rebuilt = u.rebuilt;
      rebuilt_is = u.rebuilt_is;
      passes = u.passes;
      stores =
          held_old new (h.number + 1) (let b = u.below in omega arith)
          ∙ u.stores
          ∙ ap (λ (p : List ℕ). stored (task_of s m.edge h.coding) p (Some u.rebuilt)) (sym (held_old new h.number (let b = u.below in omega arith)));
    }
    still_sound new (mark h) u = record {
      since = u.since;
      below = let b = u.below in omega arith;
      untagged = u.untagged;
      unspent = u.unspent;
      clears = held_old new (h.number + 1) (let b = u.below in omega arith) ∙ u.clears;
    }

    -- the camera's: one plane more, and what was given out with it
    camera_moves : (new : List ℕ) (g : Given) (last' : Last) → length new ≡ bytes s → Bytes new → Sound (k + 1) (ps ++ new ∷ []) g
        → ((col row : ℕ) → col < s.width → row < s.height → Close s new col row (last' col row))
        → Good (k + 1) new j copy (ps ++ new ∷ []) (g ∷ out) last'
    camera_moves new g last' long byte sound close = record {
      low = good.low;
      high = let l = good.high in omega arith;
      long = long;
      copy_long = good.copy_long;
      byte = byte;
      many = let a = good.many in omega (arith, length_push ps new);
      top = held_new new;
      same = good.same ∙ sym (held_old new j good.high);
      sound = λ x. ⊎_elim
          (λ (e : x ≡ g). subst (Sound (k + 1) (ps ++ new ∷ [])) (sym e) sound)
          (λ (i : Among x out). still_sound new x (good.sound x i));
      close = close;
    }

    -- the handset's: at count i it holds what the camera held there
    handset_moves : (i : ℕ) (new : List ℕ) → first ≤ i → i ≤ k → length new ≡ bytes s → new ≡ held ps i → Good k plane i new (ps ++ []) out last
    handset_moves i new low high long same = subst (λ (qs : List (List ℕ)). Good k plane i new qs out last) (sym (append-nil ps)) (record {
      low = low;
      high = high;
      long = good.long;
      copy_long = long;
      byte = good.byte;
      many = good.many;
      top = good.top;
      same = same;
      sound = good.sound;
      close = good.close;
    })

  -- ---- the four calls

  module _ (cs : List Call) (r : Run cs) where
    abbrev ps : List (List ℕ)
    ps = planes start cs

    abbrev out : List Given
    out = given start cs

    abbrev last : Last
    last = last_coded start cs

    abbrev k : ℕ
    k = r.k

    abbrev j : ℕ
    j = r.j

    -- code

    module _ (m : Meaning) (c : Coding) (source : List ℕ) (room : List ℤ) where
      abbrev the_code : Call
      the_code = code m c source room

      abbrev code_next : Coded → Pair
      code_next q = record { camera = q.end; camera_plane = q.plane; handset = end_of s j; handset_plane = r.copy }

      code_is : (o : Option Refusal) (b : Option (List ℤ)) → code_refusal m (end_of s k) r.plane c source room ≡ o → code_rebuilt m (end_of s k) r.plane c source ≡ b
          → code_call m (end_of s k) r.plane c source room ≡ coded m (end_of s k) r.plane c source room o b
      code_is o b e f = λ i. coded m (end_of s k) r.plane c source room (e i) (f i)

      code_stays : (x : Refusal) → code_call m (end_of s k) r.plane c source room ≡ record { answer = Err x; end = end_of s k; plane = r.plane; levels = room } → Run (the_code ∷ cs)
      code_stays x e = stays cs r the_code (ap code_next e) (ap (λ (q : Coded). unit_of m q.levels q.answer) e) (ap (λ (q : Coded). is_ok q.answer) e)

      code_moves : Facts m → Bytes source → (rebuilt : List ℤ) → code_refusal m (end_of s k) r.plane c source room ≡ None → code_rebuilt m (end_of s k) r.plane c source ≡ Some rebuilt → Run (the_code ∷ cs)
      unfolding coded
      code_moves facts sources rebuilt none rebuilt_is =
          let q = code_is None (Some rebuilt) none rebuilt_is in
          let h : Heading = record { number = k; tag = m.tag; coding = c } in
          let task : Task = task_of s m.edge c in
          let levels : List ℤ = code_levels m task r.plane source in
          let pred : List ℕ = prediction task.mode task.tile r.plane in
          let new : List ℕ = stored task r.plane (Some rebuilt) in
          let low-qp : c.qp ≤ 51 = ltb-false 51 c.qp (none_clear (code_rules m (end_of s k) r.plane c source room) none).1.1.0 in
          let good = r.good in
          let many : length levels ≡ m.edge * m.edge = facts.level_count c.qp (sort_of task.mode) (residual source pred) low-qp
          (residual_long s m facts r.plane good.long good.byte c source sources low-qp)
          (differences_residual source pred sources (bytes_prediction task.mode task.tile r.plane (edge_bounds m facts).0 good.byte)) in
          let kept : held (ps ++ new ∷ []) k ≡ r.plane = held_old k r.plane j r.copy ps out last good new k (omega arith) ∙ good.top in
          let sound : Unit-sound (k + 1) (ps ++ new ∷ []) m h levels = record {
            since = let l = good.low in let u = good.high in omega arith;
            below = omega arith;
            rebuilt = rebuilt;
            rebuilt_is = rebuilt_is;
            passes = λ copy long. follow_passes m s k r.plane copy c source room levels none long many;
            stores = held_new k r.plane j r.copy ps out last good new ∙ ap (λ (p : List ℕ). stored task p (Some rebuilt)) (sym kept);
          } in
          arrive cs r the_code (k + 1) new j r.copy (unit m h levels ∷ []) true (ap code_next q) (ap (λ (q : Coded). unit_of m q.levels q.answer) q) (ap (λ (q : Coded). is_ok q.answer) q)
          (camera_moves k r.plane j r.copy ps out last good new (unit m h levels) (last_then the_code true last)
          (length_with_tile task.tile (reconstructed pred rebuilt) r.plane ∙ good.long)
          (bytes_with_tile task.tile (reconstructed pred rebuilt) r.plane (bytes_reconstructed pred rebuilt) good.byte) sound
          (λ col row hc hr. code_close s m facts r.plane good.long good.byte c source sources low-qp rebuilt rebuilt_is col row hc hr (last col row) (good.close col row hc hr)))

      code_step : Facts m → Bytes source → Run (the_code ∷ cs)
      unfolding coded
      code_step facts sources = go _ _ refl refl
        where
          go : (o : Option Refusal) (b : Option (List ℤ)) → code_refusal m (end_of s k) r.plane c source room ≡ o → code_rebuilt m (end_of s k) r.plane c source ≡ b → Run (the_code ∷ cs)
          go (Some x) b e f = code_stays x (code_is (Some x) b e f)
          go None None e f = code_stays Width (code_is None None e f)
          go None (Some rebuilt) e f = code_moves facts sources rebuilt e f

    -- restart

    restart_step : Run (restart ∷ cs)
    unfolding restarted
    restart_step = go _ refl
      where
        N : Answered Heading → Pair
        N q = record { camera = q.end; camera_plane = q.plane; handset = end_of s j; handset_plane = r.copy }

        go : (o : Option Refusal) → restart_refusal (end_of s k) r.plane ≡ o → Run (restart ∷ cs)
        go (Some x) e =
            let q = ap (restarted (end_of s k) r.plane) e in
            stays cs r restart (ap N q) (ap (λ (q : Answered Heading). mark_of q.answer) q) (ap (λ (q : Answered Heading). is_ok q.answer) q)
        go None e =
            let q = ap (restarted (end_of s k) r.plane) e in
            let good = r.good in
            let new : List ℕ = blank (bytes s) in
            let sound : Mark-sound (k + 1) (ps ++ new ∷ []) (restart_heading k) = record {
              since = let l = good.low in let u = good.high in omega arith;
              below = omega arith;
              untagged = refl;
              unspent = (none_clear (restart_rules (end_of s k) r.plane) e).1.0;
              clears = held_new k r.plane j r.copy ps out last good new;
            } in
            arrive cs r restart (k + 1) new j r.copy (mark (restart_heading k) ∷ []) true (ap N q) (ap (λ (q : Answered Heading). mark_of q.answer) q) (ap (λ (q : Answered Heading). is_ok q.answer) q)
            (camera_moves k r.plane j r.copy ps out last good new (mark (restart_heading k)) (last_then restart true last) (length-replicate (bytes s) 128) (bytes_blank (bytes s)) sound
            (λ col row hc hr. get_or-replicate (bytes s) (row * s.width + col) 128 0 (mul-add-lt row s.width col s.height hr hc)))

    -- the handset's calls, on what the camera gave out

    abbrev R : Type 0
    R = Answered (Unit {0})

    abbrev handset_next : R → Pair
    handset_next q = record { camera = end_of s k; camera_plane = r.plane; handset = q.end; handset_plane = q.plane }

    module _ (m : Meaning) (h : Heading) (levels : List ℤ) (u : Unit-sound k ps m h levels) where
      abbrev hand : ℕ → Pair
      hand i = pair k r.plane i r.copy

      abbrev the_follow : Option Refusal → Option (List ℤ) → R
      the_follow = followed m (end_of s j) r.copy h

      follow_on : h.number ≡ j → follow_call m (end_of s j) r.copy h levels ≡ the_follow None (Some u.rebuilt)
      follow_on e = λ i. the_follow (subst (λ (n : ℕ). follow_refusal m (end_of s n) r.copy h levels ≡ None) e (u.passes r.copy r.good.copy_long) i) (u.rebuilt_is i)

      follow_off : (h.number ≡ j → ⊥) → (x : Refusal) × (follow_call m (end_of s j) r.copy h levels ≡ the_follow (Some x) (m.reconstruction h.coding.qp levels))
      follow_off ne =
          let rules = follow_rules m (end_of s j) r.copy h levels in
          let late : h.number < j → (x : Refusal) × (follow_refusal m (end_of s j) r.copy h levels ≡ Some x) = λ l. hit rules 3 (lt-ltb _ _ l) in
          let early : j < h.number → (x : Refusal) × (follow_refusal m (end_of s j) r.copy h levels ≡ Some x) = λ l. hit rules 4 (lt-ltb _ _ l) in
          let x = ⊎_elim (λ (e : h.number ≡ j). absurd (ne e)) (⊎_elim late early) (cases_order h.number j) in
          (x.0, ap (λ (o : Option Refusal). the_follow o (m.reconstruction h.coding.qp levels)) x.1)

      follow_taken : taken (follow m h levels) (hand j) ≡ eqb h.number j
      unfolding followed
      follow_taken = ⊎_elim
          (λ (e : h.number ≡ j). ap (λ (q : R). is_ok q.answer) (follow_on e) ∙ sym (eq-eqb _ _ e))
          (λ (ne : h.number ≡ j → ⊥). ap (λ (q : R). is_ok q.answer) (follow_off ne).1 ∙ sym (ne_eqb _ _ ne))
          (cases_eq h.number j)

      follow_step : Run (follow m h levels ∷ cs)
      unfolding followed
      follow_step = ⊎_elim on off (cases_eq h.number j)
        where
          on : h.number ≡ j → Run (follow m h levels ∷ cs)
          on e =
              let q = follow_on e in
              let task : Task = task_of s m.edge h.coding in
              let new : List ℕ = stored task r.copy (Some u.rebuilt) in
              let is : new ≡ held ps (j + 1) =
              ap (λ (p : List ℕ). stored task p (Some u.rebuilt)) (r.good.same ∙ ap (held ps) (sym e)) ∙ sym u.stores ∙ ap (λ (n : ℕ). held ps (n + 1)) e in
              arrive cs r (follow m h levels) k r.plane (j + 1) new [] true (ap handset_next q) refl (ap (λ (q : R). is_ok q.answer) q)
              (handset_moves k r.plane j r.copy ps out last r.good (j + 1) new (let l = r.good.low in omega arith) (let b = u.below in omega arith)
              (length_with_tile task.tile _ r.copy ∙ r.good.copy_long) is)

          off : (h.number ≡ j → ⊥) → Run (follow m h levels ∷ cs)
          off ne = let q = (follow_off ne).1 in stays cs r (follow m h levels) (ap handset_next q) refl (ap (λ (q : R). is_ok q.answer) q)

    module _ (h : Heading) (u : Mark-sound k ps h) where
      abbrev the_resume : Option Refusal → R
      the_resume = resumed (end_of s j) r.copy h

      resume_on : j ≤ h.number → resume_call (end_of s j) r.copy h ≡ the_resume None
      resume_on l = ap the_resume (clear_none (resume_rules (end_of s j) r.copy h) (same_passes _ _ r.good.copy_long, (u.unspent, (same_passes _ _ u.untagged, (le-ltb _ _ l, tt)))))

      resume_off : h.number < j → (x : Refusal) × (resume_call (end_of s j) r.copy h ≡ the_resume (Some x))
      resume_off l = let x = hit (resume_rules (end_of s j) r.copy h) 3 (lt-ltb _ _ l) in (x.0, ap the_resume x.1)

      resume_taken : taken (resume h) (pair k r.plane j r.copy) ≡ leb j h.number
      unfolding resumed
      resume_taken = ⊎_elim
          (λ (l : h.number < j). ap (λ (q : R). is_ok q.answer) (resume_off l).1 ∙ sym (lt-leb _ _ l))
          (λ (l : j ≤ h.number). ap (λ (q : R). is_ok q.answer) (resume_on l) ∙ sym (le-leb _ _ l))
          (cases_lt h.number j)

      resume_step : Run (resume h ∷ cs)
      unfolding resumed
      resume_step = ⊎_elim off on (cases_lt h.number j)
        where
          off : h.number < j → Run (resume h ∷ cs)
          off l = let q = (resume_off l).1 in stays cs r (resume h) (ap handset_next q) refl (ap (λ (q : R). is_ok q.answer) q)

          on : j ≤ h.number → Run (resume h ∷ cs)
          on l =
              let q = resume_on l in
              arrive cs r (resume h) k r.plane (h.number + 1) (blank (bytes s)) [] true (ap handset_next q) refl (ap (λ (q : R). is_ok q.answer) q)
              (handset_moves k r.plane j r.copy ps out last r.good (h.number + 1) (blank (bytes s)) (let a = u.since in omega arith) (let b = u.below in omega arith)
              (length-replicate (bytes s) 128) (sym u.clears))

  -- ---- every run

  at_start : Run []
  at_start = record {
    k = first;
    plane = blank (bytes s);
    j = first;
    copy = blank (bytes s);
    is = refl;
    good = record {
      low = omega arith;
      high = omega arith;
      long = length-replicate (bytes s) 128;
      copy_long = length-replicate (bytes s) 128;
      byte = bytes_blank (bytes s);
      many = omega arith;
      top = opened_held;
      same = sym opened_held;
      sound = λ g a. absurd a;
      close = λ col row hc hr. get_or-replicate (bytes s) (row * s.width + col) 128 0 (mul-add-lt row s.width col s.height hr hc);
    };
  }
    where
      opened_held : held (blank (bytes s) ∷ []) first ≡ blank (bytes s)
      opened_held = ap (λ (i : ℕ). get_or (blank (bytes s) ∷ []) i []) (let z : first - first ≡ 0 = omega arith in z)

  one_more : (c : Call) (cs : List Call) → Run cs → ProperCall c (given start cs) → Run (c ∷ cs)
  one_more (code m c source room) cs r proper = code_step cs r m c source room proper.0 proper.1
  one_more restart cs r proper = restart_step cs r
  one_more (follow m h levels) cs r proper = follow_step cs r m h levels (r.good.sound (unit m h levels) proper)
  one_more (resume h) cs r proper = resume_step cs r h (r.good.sound (mark h) proper)

  every_run : (cs : List Call) → Proper start cs → Run cs
  every_run [] proper = at_start
  every_run (c ∷ cs) proper = one_more c cs (every_run cs proper.0) proper.1

pub run_law : (s : Size) (first : ℕ) → RunLaw s first
run_law s first cs proper =
    let r = every_run s first cs proper in
    let good = r.good in
    let is = sym r.is in (
      record {
        counted = subst (λ (p : Pair). first + length (planes (opened_alike s first) cs) ≡ p.camera.count + 1) is good.many;
        not_before = subst (λ (p : Pair). first ≤ p.handset.count) is good.low;
        not_past = subst (λ (p : Pair). p.handset.count ≤ p.camera.count) is good.high;
        same = λ col row hc hr. subst (λ (p : Pair). sample s p.handset_plane col row ≡ sample s (get_or (planes (opened_alike s first) cs) (p.handset.count - first) []) col row) is (ap (λ (p : List ℕ). sample s p col row) good.same);
        units = λ m h levels a. subst (λ (p : Pair). taken (follow m h levels) p ≡ eqb h.number p.handset.count) is (follow_taken s first cs r m h levels (good.sound (unit m h levels) a));
        marks = λ h a. subst (λ (p : Pair). taken (resume h) p ≡ leb p.handset.count h.number) is (resume_taken s first cs r h (good.sound (mark h) a));
      },
      λ col row hc hr. subst (λ (p : Pair). Close s p.camera_plane col row (last_coded (opened_alike s first) cs col row)) is (good.close col row hc hr),
    )

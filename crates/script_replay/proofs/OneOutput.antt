-- What a run writes is one, and so is how a joined text is cut.
use Rattle.std.proofs.Common.{◌≡◌, ◌≢◌, ℕ, suc, ◌⊎◌, List, [], ◌∷◌, ◌++◌, Contains, Result, Ok, Err, refl, sym, ap, ap₂}
use Rattle.std.proofs.Common.{subst, subst₂, ◌∙◌, arith, inl, inr}
use Rattle.std.specs.List.{flat_map, join_with_byte}
use Rattle.std.proofs.lemmas.List.Elements.{All-contains, Contains-append_right}
use Rattle.topology.specs.Faults.{IsFirstFault, IsGraphOf}
use Rattle.topology.specs.Graph.{Graph}
use Rattle.topology.specs.TopologyText.{Description, IsReadFault, description_of}
use Rattle.topology.specs.declared.fault.TopoFault.{TopoFault}
use Rattle.topology.specs.declared.text.AppName.{AppName}
use Rattle.topology.specs.declared.text.ReadFault.{ReadFault}
use Rattle.topology.specs.declared.text.ReadFault.TheVariants.{Topology}
use Rattle.topology.proofs.OneResult.{one_first_fault, one_graph}
use Rattle.reset_model.proofs.OneBoot.{one_boot}
use Rattle.applications.specs.Meaning.{Meaning}
use Rattle.applications.proofs.Choosing.{agree}
use Rattle.history.specs.HistoryText.{ended}
use Rattle.script_replay.specs.Lines.{HasNoSeparator, IsCut, lines_of, separator}
use Rattle.script_replay.specs.Lines.IsCut.{at_separator, topology_alone}
use Rattle.script_replay.specs.Output.{Describes, IsJoinedOutput, IsJudged, IsOutput, IsReplay, IsReplayOf}
use Rattle.script_replay.specs.Output.{bad_topology_text, script_output}
use Rattle.script_replay.specs.Output.IsJoinedOutput.{cut, too_long}
use Rattle.script_replay.specs.Output.IsJudged.{bad_topology, good_topology}
use Rattle.script_replay.specs.Output.IsReplay.{replayed}
use Rattle.script_replay.specs.declared.status.Purpose.{Purpose}
use Rattle.script_replay.specs.declared.status.Purpose.TheVariants as purposes
use Rattle.script_replay.specs.declared.status.Status.{Status}
use Rattle.script_replay.specs.declared.status.Status.TheVariants.{BadInput}

abbrev Output : Type 0
Output = List ℕ × Status

-- ---- what a topology text is

-- a fault is the text's own, or that of the lists that it describes
abbrev OfLists : List ℕ → ReadFault → Type 0
OfLists text f =
    (d : Description) × (x : TopoFault) × (description_of text ≡ Ok d) × IsFirstFault d.nodes d.links x
    × (f ≡ Topology x)

own_or_lists : (text : List ℕ) (f : ReadFault) → IsReadFault text f → (description_of text ≡ Err f) ⊎ OfLists text f
own_or_lists text (Topology x) (d, is, first) = inr (d, x, is, first, refl)
own_or_lists text f is = inl is

err_once : {X E : Type 0} (r : Result X E) (e f : E) → r ≡ Err e → r ≡ Err f → e ≡ f
err_once r e f a b = let same : Err e ≡ Err f = sym a ∙ b in cc

ok_once : {X E : Type 0} (r : Result X E) (x y : X) → r ≡ Ok x → r ≡ Ok y → x ≡ y
ok_once r x y a b = let same : Ok x ≡ Ok y = sym a ∙ b in cc

ok_or_err : {X E : Type 0} (r : Result X E) (x : X) (e : E) → r ≡ Ok x → r ≡ Err e → ⊥
ok_or_err r x e a b = let same : Ok x ≡ Err e = sym a ∙ b in absurd (cc)

-- ---- how a joined text is cut

-- before the first separator stands one list of lines, and behind it one
one_prefix : (xs ys after behind : List (List ℕ)) → HasNoSeparator xs → HasNoSeparator ys
    → xs ++ separator ∷ after ≡ ys ++ separator ∷ behind
    → (xs ≡ ys) × (after ≡ behind)
one_prefix [] [] after behind none nor is = let same : separator ∷ after ≡ separator ∷ behind = is in (refl, cc)
one_prefix [] (y ∷ ys) after behind none nor is =
    let same : separator ∷ after ≡ y ∷ ys ++ separator ∷ behind = is in let first : y ≡ separator =
    cc in absurd (nor 0 [] (omega arith) first)
one_prefix (x ∷ xs) [] after behind none nor is =
    let same : x ∷ xs ++ separator ∷ after ≡ separator ∷ behind = is in let first : x ≡ separator =
    cc in absurd (none 0 [] (omega arith) first)
one_prefix (x ∷ xs) (y ∷ ys) after behind none nor is =
    let same : x ∷ xs ++ separator ∷ after ≡ y ∷ ys ++ separator ∷ behind = is in
    let first : x ≡ y = cc in
    let rest : xs ++ separator ∷ after ≡ ys ++ separator ∷ behind = cc in
    let both =
    one_prefix xs ys after behind (λ k d low. none (suc k) d (omega (arith, low)))
    (λ k d low. nor (suc k) d (omega (arith, low))) rest in
    (ap₂ (λ l ls. l ∷ ls) first both.0, both.1)

-- a list with a separator has one
has_separator : (lines prefix rest : List (List ℕ)) → lines ≡ prefix ++ separator ∷ rest → HasNoSeparator lines → ⊥
has_separator lines prefix rest is none =
    All-contains (λ line. line ≢ separator) lines separator none
    (subst (λ ls. Contains ls separator) (sym is)
    (Contains-append_right prefix (separator ∷ rest) separator (0, omega arith, refl))) refl

one_cut : (joined t t' s s' : List ℕ) → IsCut joined t s → IsCut joined t' s' → (t ≡ t') × (s ≡ s')
one_cut joined t t' s s' (at_separator prefix rest is none t_is s_is) (at_separator fore after is' none' t'_is s'_is) =
    let same = one_prefix prefix fore rest after none none' (sym is ∙ is') in
    (t_is ∙ ap (flat_map ended) same.0 ∙ sym t'_is, s_is ∙ ap (join_with_byte 10) same.1 ∙ sym s'_is)
one_cut joined t t' s s' (at_separator prefix rest is none t_is s_is) (topology_alone whole t'_is s'_is) =
    absurd (has_separator (lines_of joined) prefix rest is whole)
one_cut joined t t' s s' (topology_alone whole t_is s_is) (at_separator prefix rest is none t'_is s'_is) =
    absurd (has_separator (lines_of joined) prefix rest is whole)
one_cut joined t t' s s' (topology_alone whole t_is s_is) (topology_alone whole' t'_is s'_is) =
    (t_is ∙ sym t'_is, s_is ∙ sym s'_is)

pub one_read_fault : (text : List ℕ) (f e : ReadFault) → IsReadFault text f → IsReadFault text e → f ≡ e
one_read_fault text f e a b = go (own_or_lists text f a) (own_or_lists text e b)
  where
    go : (description_of text ≡ Err f) ⊎ OfLists text f → (description_of text ≡ Err e) ⊎ OfLists text e → f ≡ e
    go (inl own) (inl other) = err_once (description_of text) f e own other
    go (inl own) (inr (d, x, is, first, f_is)) = absurd (ok_or_err (description_of text) d f is own)
    go (inr (d, x, is, first, f_is)) (inl own) = absurd (ok_or_err (description_of text) d e is own)
    go (inr (d, x, is, first, f_is)) (inr (d', y, is', first', e_is)) =
        let same : d ≡ d' = ok_once (description_of text) d d' is is' in
        let lists : IsFirstFault d'.nodes d'.links x =
        subst (λ (l : Description). IsFirstFault l.nodes l.links x) same first in
        f_is ∙ ap Topology (one_first_fault d'.nodes d'.links x y lists first') ∙ sym e_is

-- no text is both bad and good
pub bad_or_good : (text : List ℕ) (f : ReadFault) (g : Graph) (app : AppName) (modulus : ℕ) → IsReadFault text f
    → Describes text g app modulus → ⊥
bad_or_good text f g app modulus bad (d, is, sound, app_is, modulus_is) = go (own_or_lists text f bad)
  where
    go : (description_of text ≡ Err f) ⊎ OfLists text f → ⊥
    go (inl own) = ok_or_err (description_of text) d f is own
    go (inr (d', x, is', first, f_is)) =
        let same : d' ≡ d = ok_once (description_of text) d' d is' is in
        sound.sound x (subst (λ (l : Description). IsFirstFault l.nodes l.links x) same first).fault

pub one_description : (text : List ℕ) (g h : Graph) (app other : AppName) (modulus another : ℕ)
    → Describes text g app modulus → Describes text h other another → (g ≡ h) × (app ≡ other) × (modulus ≡ another)
one_description text g h app other modulus another (d, is, of_g, app_is, modulus_is)
    (d', is', of_h, other_is, another_is) =
    let same : d ≡ d' = ok_once (description_of text) d d' is is' in (
      one_graph d'.nodes d'.links g h (subst (λ (l : Description). IsGraphOf l.nodes l.links g) same of_g.exact)
          of_h.exact,
      app_is ∙ ap (λ (l : Description). l.app) same ∙ sym other_is,
      modulus_is ∙ ap (λ (l : Description). l.modulus) same ∙ sym another_is,
    )

-- ---- what a run writes

one_replay : {L : Type 0} (m : Meaning L) (purpose : Purpose) (g : Graph) (modulus : ℕ) (script : List ℕ)
    (o p : Output) → IsReplay m purpose g modulus script o → IsReplay m purpose g modulus script p → o ≡ p
one_replay m purpose g modulus script o p (replayed c boot is) (replayed d other is') =
    is ∙ ap (λ k. script_output m purpose k script) (one_boot m.app g modulus c d boot other) ∙ sym is'

one_replay_of : (app : AppName) (purpose : Purpose) (g : Graph) (modulus : ℕ) (script : List ℕ) (o p : Output)
    → IsReplayOf app purpose g modulus script o → IsReplayOf app purpose g modulus script p → o ≡ p
one_replay_of app purpose g modulus script o p =
    agree (λ L m. IsReplay m purpose g modulus script o) (λ L m. IsReplay m purpose g modulus script p) (o ≡ p)
    (λ L m. one_replay m purpose g modulus script o p) app

-- one thing is written where a topology is judged first, if one thing follows a good one
pub one_judged : (Follows : AppName → Graph → ℕ → Output → Type 0)
    → ((app : AppName) (g : Graph) (modulus : ℕ) (o p : Output) → Follows app g modulus o → Follows app g modulus p
    → o ≡ p)
    → (topology : List ℕ) (o p : Output)
    → IsJudged Follows topology o → IsJudged Follows topology p → o ≡ p
one_judged Follows one topology o p (bad_topology f bad is) (bad_topology e other is') =
    is ∙ ap (λ x. (bad_topology_text x, BadInput)) (one_read_fault topology f e bad other) ∙ sym is'
one_judged Follows one topology o p (bad_topology f bad is) (good_topology g app modulus good follows) =
    absurd (bad_or_good topology f g app modulus bad good)
one_judged Follows one topology o p (good_topology g app modulus good follows) (bad_topology f bad is) =
    absurd (bad_or_good topology f g app modulus bad good)
one_judged Follows one topology o p (good_topology g app modulus good follows)
    (good_topology h other another good' follows') =
    let same = one_description topology g h app other modulus another good good' in
    one other h another o p
    (subst (λ x. Follows other h x o) same.2 (subst₂ (λ x y. Follows y x modulus o) same.0 same.1 follows)) follows'

pub one_output : (purpose : Purpose) (topology script : List ℕ) (o p : Output) → IsOutput purpose topology script o
    → IsOutput purpose topology script p → o ≡ p
one_output purpose topology script =
    one_judged (λ app g modulus. IsReplayOf app purpose g modulus script)
    (λ app g modulus o p. one_replay_of app purpose g modulus script o p) topology

pub one_joined_output : (joined : List ℕ) (o p : Output) → IsJoinedOutput joined o → IsJoinedOutput joined p → o ≡ p
one_joined_output joined o p (too_long long is) (too_long long' is') = is ∙ sym is'
one_joined_output joined o p (too_long long is) (cut t s short at runs) = absurd (omega (arith, long, short))
one_joined_output joined o p (cut t s short at runs) (too_long long is) = absurd (omega (arith, long, short))
one_joined_output joined o p (cut t s short at runs) (cut t' s' short' at' runs') =
    let same = one_cut joined t t' s s' at at' in
    one_output purposes.Replay t' s' o p (subst₂ (λ x y. IsOutput purposes.Replay x y o) same.0 same.1 runs) runs'

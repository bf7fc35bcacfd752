-- A field for each call: the card's and the driver's by their laws, the others by their equations. Assumes nothing.
use mathlib.Core.Path.{◌≡◌, refl, sym, ap, ◌∙◌}
use mathlib.Core.List.{List}
use Prim.Native.Nat.{ℕ, zero, suc}
use lib.ListN.{length}
use Rattle.image_rules.specs.Image.{check_of}
use Rattle.image_rules.specs.Line.{line_of, Says}
use Rattle.transmit_rules.specs.Leave.{told_of}
use Rattle.card_rules.specs.declared.Card.{Card}
use Rattle.card_rules.specs.View.{view}
use Rattle.card_rules.specs.Calls.{value, done, Area}
use Rattle.fits.specs.Fits.{Exactly, OneLine, text, CardCalls, NothingElseFits}
use Rattle.fits.proofs.Card.{one_answer}
use Rattle.fits.proofs.Driver.{driver-calls}

module _ {A B : Type 0} (shows : A → B) (wanted : B) where
  exactly : Exactly (λ r. shows r ≡ wanted) shows wanted
  exactly = record { only = λ r k. k; met = λ r k. k }

same_area : (n : ℕ) (told out x x' : List ℕ) → Area n told out x → Area n told out x' → x ≡ x'
unfolding Area
same_area zero told out x x' k k' = k ∙ sym k'
same_area (suc n) told out x x' k k' = k ∙ sym k'

one_line : (line : List ℕ) → OneLine (λ r. Says line r.len r.bytes) line
one_line line =
    record {
      says = λ r k. k.says;
      one = λ r r' k k'.
          let same : text r ≡ text r' = k.says ∙ sym k'.says in
          (k.whole ∙ (ap length same ∙ sym k'.whole), same);
    }

card-calls : (c : Card) (ram dir : List ℕ) → CardCalls c ram dir
card-calls c ram dir =
    record {
      read_word = λ o. one_answer (value _) refl c ram dir _ _ _ _ _ (λ r k. k);
      read_byte = λ o. one_answer (value _) refl c ram dir _ _ _ _ _ (λ r k. k);
      write_word = λ o v. one_answer done refl c ram dir _ _ _ _ _ (λ r k. k);
      write_byte = λ o v. one_answer done refl c ram dir _ _ _ _ _ (λ r k. k);
      wire_start_call = λ first. one_answer done refl c ram dir _ _ _ _ _ (λ r k. k);
      wire_byte_call = λ b. one_answer done refl c ram dir _ _ _ _ _ (λ r k. k);
      wire_end_call = λ check alignment. one_answer done refl c ram dir _ _ _ _ _ (λ r k. k);
      success = one_answer (value _) refl c ram dir _ _ _ _ _ (λ r k. k);
      success_area = same_area _ (told_of (view c ram dir).tx.queue.packets);
      collisions = one_answer done refl c ram dir _ _ _ _ _ (λ r k. k);
      seat = λ i. one_answer done refl c ram dir _ _ _ _ _ (λ r k. k);
      interrupt_line_call = exactly _ _;
      rx_status_call = exactly _ _;
    }

pub nothing_else : NothingElseFits
nothing_else =
    record {
      power_on_call = λ words ram dir l m r r' k k'. (k ram dir l m).shows ∙ sym (k' ram dir l m).shows;
      card = card-calls;
      driver = driver-calls;
      hand_up_call = λ look frame n r r' k k'. (k.0 ∙ sym k'.0, k.1 ∙ sym k'.1);
      id_port = λ b x. record { port_write_call = λ byte. exactly _ _; port_read_call = exactly _ _; find_cards = exactly _ _; activate_card = λ tag base. exactly _ _ };
      lent_port = λ cards x. record { write = λ byte. exactly _ _; read = exactly _ _; find = exactly _ _; activate = λ tag base. exactly _ _ };
      fresh = λ words. exactly _ _;
      id_sound_call = λ s. exactly _ _;
      id_write_call = λ s x byte. exactly _ _;
      id_bit_call = λ s x. exactly _ _;
      id_after_read_call = λ s x bus. exactly _ _;
      place_of_call = λ w. exactly _ _;
      byte_at_call = λ bytes place. exactly _ _;
      word_at_call = λ bytes w. exactly _ _;
      checksum = λ bytes. exactly _ _;
      secondary = λ bytes. exactly _ _;
      check = λ bytes. exactly _ _;
      line = λ found. one_line (line_of found);
      line_judged = λ bytes. one_line (line_of (check_of bytes));
      number = λ why. exactly _ _;
    }

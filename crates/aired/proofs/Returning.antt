-- A frame that went through bytes: what was read of them, and that the frame is the one that was written.
-- came_back, never_none, same-channel, only_memory, bytes_are, returned. Assumes nothing.
use Rattle.std.proofs.Common.{◌≡◌, ℕ, ◌*◌, ◌^◌, ◌<◌, true, ◌⊎◌, List, ◌++◌, length, Some, None, vec_items, Option, sym, ap, ◌∙◌, subst, ap₂, ⊎_elim, arith}
use Rattle.std.specs.List.{flat_map}
use Rattle.channels.specs.Settings.{settings}
use Rattle.channels.specs.declared.channel.Channel.{Channel as CodeChannel}
use Rattle.channels.specs.declared.fault.Fault.{Fault}
use Rattle.channels.specs.declared.fault.Fault.TheVariants.{Memory}
use Rattle.frames.specs.Slots.{there_in}
use Rattle.frames.specs.declared.slot.Slot.{Slot}
use Rattle.records.specs.Channels.{bytes_of_channel}
use Rattle.records.specs.Hearing.{bytes_of_heard}
use Rattle.records.specs.declared.heard.Heard.{Heard}
use Rattle.reading.specs.Formats.{heard_format}
use Rattle.reading.specs.Reading.{finished}
use Rattle.readers.specs.Inputs.{HeardInputIs, read_input, settings_if}
use Rattle.readers.specs.declared.input_read.InputRead.{InputRead}
use Rattle.speakall.specs.Plan.{Channel}
use Rattle.writers.specs.Order.{InOrder}
use Rattle.aired.specs.Aired.{Kept, Returned, bytes_of, outside, records_of}
use Rattle.aired.proofs.Ordered.{read_back, records_inside}

module _ (c g : Channel) (f : ℕ) (slots : List Slot) (wide : 2 < c.q) (narrow : c.q < 252) (same : g ≡ c) where
  -- what is read of the bytes that were written of the records of a frame
  pub came_back : (rs ws : List Heard) (bs us : List ℕ) (i : InputRead Heard) → rs ≡ records_of c f slots → ws ≡ rs →
      (InOrder g.q 0 ws → read_input (λ c. heard_format c.q) bs ≡ record { channel = Some g; reading = record { given = ws; ending = finished } }) → us ≡ bs →
      HeardInputIs i (read_input (λ c. heard_format c.q) us) → (settings_if i.channel ≡ Some c) × (vec_items i.read.records ≡ records_of c f slots)
  came_back rs ws bs us i e w back u is =
      read_back c f slots ws us i (omega arith) narrow (w ∙ e)
      (λ o. ap (read_input (λ c. heard_format c.q)) u ∙ back (subst (λ (z : Channel). InOrder z.q 0 ws) (sym same) o) ∙
      ap (λ (z : Channel). record { channel = Some z; reading = record { given = ws; ending = finished } }) same) is

  pub only_memory : (rs ws : List Heard) (e : Fault) → rs ≡ records_of c f slots → ws ≡ rs → (e ≡ Memory) ⊎ (outside g f ws ≡ Some e) → e ≡ Memory
  only_memory rs ws e i w o = ⊎_elim (λ m. m) (λ s. let n = records_inside c g f slots ws (omega arith) narrow same (w ∙ i) in cc) o

  pub bytes_are : (rs ws : List Heard) (bs : List ℕ) → rs ≡ records_of c f slots → ws ≡ rs → bs ≡ bytes_of_channel g.q g.d g.k ++ flat_map bytes_of_heard ws → bs ≡ bytes_of c f slots
  bytes_are rs ws bs e w b =
      b ∙ ap₂ (λ (z : Channel) (hs : List Heard). bytes_of_channel z.q z.d z.k ++ flat_map bytes_of_heard hs) same (w ∙ e)

  pub returned : (rs ws : List Heard) (after : List Slot) → rs ≡ records_of c f slots → ws ≡ rs → length slots ≡ c.q * c.q → there_in (c.q ^ c.d) slots ≡ true → Kept g f ws after → Returned c slots after
  returned rs ws after e w long there kept ss hears =
      subst (λ (z : Channel). Kept z f ws after) same kept ss slots long there hears (w ∙ e)

pub never_none : (c : Channel) (o : Option CodeChannel) → o ≡ None → settings_if o ≡ Some c → ⊥
never_none c None e s = cc
never_none c (Some x) e s = cc

pub same-channel : (c : Channel) (o : Option CodeChannel) (x : CodeChannel) → o ≡ Some x → settings_if o ≡ Some c → settings x ≡ c
same-channel c o x e s = let r : Some (settings x) ≡ Some c = sym (ap settings_if e) ∙ s in cc

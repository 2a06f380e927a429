-- The page that help tells: the calls, what each is for, and what it answers.
-- Assumes nothing.
use Rattle.std.specs.Prelude.{ℕ, List, [], ◌∷◌, ◌++◌}
use Rattle.text.specs.Writing.{word}

-- lines with a line end between them
abbrev pub lines : List (List ℕ) → List ℕ
lines [] = []
lines (line ∷ []) = line
lines (line ∷ next ∷ more) = line ++ (10 ∷ lines (next ∷ more))

abbrev pub page : List ℕ
page =
    lines
    (word "power-on uart        power was given; or power-on spi     ok [STATE]"
    ∷ word "pulse                a low pulse on IRQ_IN was given      ok [STATE]"
    ∷ word "idn                  IDN, to be sent                      sent BYTES [STATE]"
    ∷ word "select PP BYTES      ProtocolSelect, its parameters       sent BYTES [STATE]"
    ∷ word "send BYTES           SendRecv, its data                   sent BYTES [STATE]"
    ∷ word "idle BYTES           Idle, its 14 data bytes              sent BYTES [STATE]"
    ∷ word "rdreg RR             RdReg, the register's address        sent BYTES [STATE]"
    ∷ word "wrreg BYTES          WrReg, its data                      sent BYTES [STATE]"
    ∷ word "inventory N          an inventory, of 1 or 16 slots       sent BYTES [STATE]"
    ∷ word "echo                 Echo, to be sent                     sent BYTES [STATE]"
    ∷ word "reset                a reset over SPI                     sent BYTES [STATE]"
    ∷ word "poll                 a poll over SPI                      sent BYTES [STATE]"
    ∷ word "read N               a read of N bytes over SPI           sent BYTES [STATE]"
    ∷ word "calibrate P BYTES    a calibration, its 10 bytes          sent BYTES [STATE]"
    ∷ word "next                 the calibration's next command       sent BYTES [STATE]"
    ∷ word "feed BYTES           bytes of the awaited reply           as below"
    ∷ word "times BYTES          the times of an Idle's 14 bytes      ticks .. ms .."
    ∷ word "wait BYTES           how long that Idle waits             after MS ms, endless"
    ∷ word "band RR              the guard band of a reference        band LL HH"
    ∷ word "command BYTES        the call that sends these bytes      idn, select PP .."
    ∷ word "flags BB             what the flags of a poll say         read yes send no"
    ∷ word "received BYTES       what a poll or a read brought back   bytes BYTES"
    ∷ word "stake BYTES          an inventory's answer, taken apart   as below"
    ∷ word "usb-idn              IDN, as the board's message          bytes BYTES"
    ∷ word "usb-firmware         GetFirmwareVersion, as a message     bytes BYTES"
    ∷ word "usb-inventory FF     inventory of 16 slots, its flags     bytes BYTES"
    ∷ word "usb-detect LL HH     GoToTagDetectingState, its DacData   bytes BYTES"
    ∷ word "usb-awake            IsWakeUp, as a message               bytes BYTES"
    ∷ word "usb-calibrate        CalibrateTagDetecting, as a message  bytes BYTES"
    ∷ word "usb BYTES            the call that writes this message    usb-idn, usb-awake .."
    ∷ word "usb-answer CC BYTES  an answer to the command CC          bytes BYTES"
    ∷ word "usb-error CODE       the answer with the MCU's CODE       bytes CODE 00"
    ∷ word "usb-reply CC BYTES   the answer to CC, taken apart        as below"
    ∷ word "out N                the lent output's length from now    ok [STATE]"
    ∷ word "room N               the reply room's length from now     ok [STATE]"
    ∷ word "help                 this page"
    ∷ word ""
    ∷ word "feed answers    more used N [STATE]"
    ∷ word "                good used N piece BYTES [STATE], or room BYTES, or no bytes"
    ∷ word "                woken timeout used N piece EE [STATE], or tag, irq-in, spi-ss"
    ∷ word "                refused N used N [STATE], or refused 7 CODE used N [STATE]"
    ∷ word "and at the end of a calibration"
    ∷ word "                reference RR commands N used N piece EE [STATE]"
    ∷ word "                refused 8, 9 or 10 commands N used N piece EE [STATE]"
    ∷ word "                refused 12 CODE commands N used N [STATE]"
    ∷ word "calibrate       P is the prescaler; the bytes are the enter, wake-up and leave"
    ∷ word "                pairs, WuPeriod, OscStart, DacStart and SwingCnt"
    ∷ word "stake           flags FF dsfid DD uid UU UU UU UU UU UU UU UU crc LL HH"
    ∷ word "usb-reply       name BYTES, firmware VV VV VV, inventory K BYTES, detecting,"
    ∷ word "                irq-out low or high, calibrated LL HH; or error CODE"
    ∷ word "CC              a command's code: 01, BC, A1, A3, A2, A4, in the order above"
    ∷ word "STATE           power-up, ready, selected P, waiting idn (or select, send,"
    ∷ word "                idle, rdreg, wrreg, echo), lost; and ', calibrating'"
    ∷ word "A call may answer 'refused N', and a line that is no call answers"
    ∷ word "'error: line L, column C: ..'. BYTES are pairs of hex digits, N is decimal."
    ∷ word "docs/CALLS.md has every call, every answer, and what to do about each refusal."
    ∷ [])
